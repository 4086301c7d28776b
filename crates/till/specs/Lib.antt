pub mod Verification
pub mod Verdict
