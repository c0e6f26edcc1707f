-- What owning an array of loans tells: how long it is.
use mathlib.Core.Path.{◌≡◌}
use mathlib.Core.List.{List}
use lib.ListN.{length}
use denote.Laws.{Is}
use denote.Array.{Array}
use denote.Struct.Declared.{row}
use mir.Val.{Val}
use Rattle.rules.specs.contracts.Loan as loan-type
use Rattle.rules.specs.declared.Loan.{Loan}

pub table-long : {vs : List Val} (t : List Loan) → Is (Array (row loan-type.the_type) 128) t vs → length t ≡ 128
table-long t g = g.1.0.1
