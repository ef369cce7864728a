pub mod SevAgreement
pub mod SevSteps
pub mod CutShort
pub mod SevEnds
