pub mod Area
