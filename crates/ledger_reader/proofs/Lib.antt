-- The laws that the proofs of the functions cite.
mod Ranking
mod Fielding
mod Resting
mod Tallying
mod Heading
mod Filling
mod Deciding
