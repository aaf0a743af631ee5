-- What pushing the vertices of a fan one by one asks and leaves.
pub mod FanSteps
