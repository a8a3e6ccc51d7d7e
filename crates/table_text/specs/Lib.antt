pub mod Forms
pub mod Texts
pub mod Faults
pub mod Spelling
pub mod Machine
pub mod Sections
