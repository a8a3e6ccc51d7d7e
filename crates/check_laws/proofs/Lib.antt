pub mod OfRuns
pub mod OfSections
pub mod OfSessions
pub mod OfTexts
pub mod OfRefusedCalls
pub mod OfRefusedProgram
