pub mod Lines
pub mod UnderWay
pub mod Wipes
