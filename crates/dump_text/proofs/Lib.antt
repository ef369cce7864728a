pub mod Results
pub mod Places
pub mod Progress
