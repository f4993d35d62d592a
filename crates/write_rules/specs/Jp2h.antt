-- I.5.3, JP2 Header box: a superbox of ihdr, bpcc where BPC asks for it, colr, and cdef where there are definitions.
use Rattle.std.specs.Prelude.{ℕ, List, ◌++◌}
use Rattle.box_kind.specs.declared.Jp2BoxType.TheVariants.{JP2H}
use Rattle.write_rules.specs.declared.Fields.{Fields}
use Rattle.write_rules.specs.Box.{box}
use Rattle.write_rules.specs.Ihdr.{ihdr}
use Rattle.write_rules.specs.Bpcc.{bpcc}
use Rattle.write_rules.specs.Colr.{colr}
use Rattle.write_rules.specs.Cdef.{cdef}

abbrev pub jp2h_content : List ℕ → Fields → List ℕ → List ℕ
jp2h_content comps s profile = ihdr s ++ bpcc comps s ++ colr s profile ++ cdef comps s

abbrev pub jp2h : List ℕ → Fields → List ℕ → List ℕ
jp2h comps s profile = box JP2H (jp2h_content comps s profile)
