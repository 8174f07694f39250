-- What the public operation promises.
pub mod Promise
