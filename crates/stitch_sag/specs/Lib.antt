-- What a squared distance beyond the sag rules out.
pub mod Beyond
