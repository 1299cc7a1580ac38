-- Lemmas on the definitions of specs/.
pub mod Numbers
mod Texts
