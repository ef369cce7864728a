pub mod PageBytes
pub mod HashedHeaders
pub mod SevDigests
