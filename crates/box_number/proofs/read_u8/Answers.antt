use Rattle.std.proofs.Common.{◌∙◌, ◌≡◌, ℕ, sym, ap, Option, Some, None, unwrap_or, refl}
use Rattle.std.specs.Option.{option_copied, option_map}
use denote.Bor.{Bor}
use native.Mathlib.Omega.{arith}
use Rattle.box_number.proofs.Numbers.{number-byte}
use Rattle.box_number.proofs.read_u8.Goals as goal

-- a copy of what is referred to
copied : (o : Option (Bor ℕ)) (d : ℕ) → unwrap_or (option_copied o) d ≡ unwrap_or (option_map (λ (x : Bor ℕ). x.now) o) d
copied (Some x) d = refl
copied None d = refl

pub returns : goal.returns
returns c =
    let a = c.args in
    c.unwrap_or.ensures ∙ ap (λ (o : Option ℕ). unwrap_or o 0) c.copied.ensures ∙ copied c.get.result 0 ∙ c.get.ensures.lookup.4 (omega arith) 0 ∙ sym (number-byte a.s.now a.at)
