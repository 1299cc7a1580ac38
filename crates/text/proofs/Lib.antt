-- Lemmas on the definitions of specs/.
pub mod Numbers
pub mod Bytes
pub mod Cuts
pub mod Matches
