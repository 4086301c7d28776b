pub mod Fields
pub mod Firsts
pub mod Hits
pub mod Bytes
pub mod Rewriting
pub mod Fill
pub mod ReadingBack
