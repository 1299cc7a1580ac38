use Rattle.std.proofs.Common.{◌≡◌, take, vec_items, string_bytes}
use Rattle.std.specs.List.{flat_map}
use Rattle.script.specs.Shows.{lamp_line}
use Rattle.script.proofs.performing.show_text.Given as goal

-- a line for each lamp so far
abbrev pub invariant-loop-site : goal.invariant-loop-site
invariant-loop-site l = string_bytes l.text ≡ flat_map (λ site. lamp_line l.hall l.state site.own.place) (take l.site-index (vec_items l.hall.sites))
