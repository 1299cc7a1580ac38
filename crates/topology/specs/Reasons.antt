-- Why a hall file is refused, in plain words.
use Rattle.std.specs.Prelude.{ℕ, List, [], ◌++◌, codes, Some, None, Option}
use Rattle.std.specs.Fmt.{decimal}
use Rattle.topology.specs.declared.fault.Reason.{Reason}
use Rattle.topology.specs.declared.fault.Reason.TheVariants.{Misplaced, Most, NoLamps, TooManyLamps, SameName, Beyond, ToItself, TooManyWires, NotJoined}
use Rattle.topology.specs.declared.fault.Refused.{Refused}

abbrev pub reason_text : Reason → List ℕ
reason_text Misplaced = codes "a line that may not stand here"
reason_text Most = codes "the most lamps are none, or above 1024"
reason_text NoLamps = codes "no lamps"
reason_text TooManyLamps = codes "more lamps than the most"
reason_text SameName = codes "a name that another lamp has"
reason_text Beyond = codes "a wire to a place without a lamp"
reason_text ToItself = codes "a lamp wired to itself"
reason_text TooManyWires = codes "a lamp with more than 16 neighbours"
reason_text NotJoined = codes "lamps that do not hang together"

-- which line, where it is one line's fault
abbrev pub line_text : Option ℕ → List ℕ
line_text None = []
line_text (Some line) = codes "line " ++ decimal line ++ codes ": "

abbrev pub refused_text : Refused → List ℕ
refused_text refused = line_text refused.line ++ reason_text refused.reason
