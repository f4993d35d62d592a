-- I.5.3.2, Bits Per Component box: BPCi (1 byte) for each component. It is there exactly where BPC is 255.
use Rattle.std.specs.Prelude.{ℕ, List, []}
use Rattle.box_number.specs.Number.{bytes}
use Rattle.box_number.specs.Table.{◌≠?◌, otherwise, ◌⇒◌∣◌, table}
use Rattle.box_kind.specs.declared.Jp2BoxType.TheVariants.{BPCC}
use Rattle.write_rules.specs.declared.Fields.{Fields}
use Rattle.write_rules.specs.Box.{box, series}
use Rattle.write_rules.specs.Setup.{varies, BPCi}

-- of the first n components
abbrev pub bpcc_content : List ℕ → ℕ → List ℕ
bpcc_content comps n = series (λ c. bytes 1 (BPCi comps c)) n

unfoldable pub bpcc : List ℕ → Fields → List ℕ
bpcc comps s = table (s.bpc ≠? varies ⇒ [] ∣ otherwise (box BPCC (bpcc_content comps s.numcomps)))
