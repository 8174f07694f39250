pub mod Numbers
pub mod Beginnings
pub mod Valuing
pub mod Lining
pub mod Commands
pub mod Reporting
pub mod Readable
