-- What reading a file asks and leaves, step by step.
pub mod Ready
