-- Lemmas on the definitions of specs/.
mod Asked
mod Cuts
mod Shown
