pub mod Checking
pub mod Reading
pub mod Carrying
pub mod Labelling
pub mod Scanning
pub mod Orders
pub mod ScanLines
