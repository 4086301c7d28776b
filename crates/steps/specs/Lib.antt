pub mod Candidate
