pub mod Natural
