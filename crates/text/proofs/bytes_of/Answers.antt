use Rattle.std.proofs.Common.{vec_items, sym, ap, ◌∙◌, rules, true-eqb, false-eqb}
use Rattle.std.specs.Option.{option_map}
use Rattle.text.proofs.Bytes.{read_more, read_none, read_end, read_odd}
use Rattle.text.proofs.bytes_of.Goals as goal
use Rattle.text.proofs.bytes_of.Goals.{then-is_empty, else-is_empty}

pub returns-in_default-byte_of : goal.returns-in_default-byte_of
returns-in_default-byte_of c =
    sym (read_none _ c.loop-rest.rest.now (search rules) (sym c.in_default-byte_of.ensures)) ∙ c.loop-rest.invariant

pub loop-rest-preserved : goal.loop-rest-preserved
loop-rest-preserved c =
    read_more _ c.loop-rest.rest.now _ c.in-Some.byte (search rules) (sym c.in-Some.ensures) c.in_ok-push.ensures.items
    ∙ c.loop-rest.invariant

pub returns : goal.returns
returns c = elim c.if-is_empty.branch [
  | then-is_empty w ↦
      ap (option_map vec_items) w.result-is ∙ sym (read_end _ c.loop-rest.rest.now (true-eqb _ 0 w.if-is_empty.ensures)) ∙ c.loop-rest.invariant
  | else-is_empty w ↦
      ap (option_map vec_items) w.result-is ∙ sym (read_odd _ c.loop-rest.rest.now (search rules) (false-eqb _ 0 w.if-is_empty.ensures)) ∙ c.loop-rest.invariant
]
