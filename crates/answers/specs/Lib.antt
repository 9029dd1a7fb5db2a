pub mod Left
pub mod Refused
pub mod Tests
pub mod Endings
pub mod Pins
pub mod Results
