pub mod Bedding
