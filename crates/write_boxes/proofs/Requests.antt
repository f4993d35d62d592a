-- What the answer of setting up says of writing.
-- Assumes nothing.
use Prim.Native.Nat.{ℕ, ◌≤◌, ◌<◌}
use native.Mathlib.Omega.{arith}
use mathlib.Core.Path.{◌≡◌, refl, sym, subst, ◌∙◌}
use mathlib.Core.Bool.{false}
use mathlib.Core.List.{List}
use Rattle.box_number.specs.Table.{◌=?◌, ◌<?◌, ◌or◌}
use Rattle.box_number.proofs.Rows.{Says, each}
use Rattle.box_number.specs.Lowest.{lowest}
use Rattle.box_number.proofs.Indices.{lowest-none}
use Rattle.box_refusal.specs.Told.{Told, accepted, refused}
use Rattle.read_record.specs.Component.{most_components}
use Rattle.write_rules.specs.declared.Fields.{Fields}
use Rattle.write_rules.specs.declared.Request.{Request}
use Rattle.write_rules.specs.Request as rules
use Rattle.write_rules.specs.Setup.{N, fields_of, ill, set_up}
use Rattle.write_rules.specs.Writing.{declined, write_fields, after_set_up, write}

-- 31 and 32: what has been tested where fields are set up
pub record Tested (comps : List ℕ) (s : Fields) : Type 0 where
  pub few : s.numcomps ≤ most_components
  pub well : (c : ℕ) → c < s.numcomps → Says false (ill comps c)
  pub defined : s.definitions ≤ most_components

module _ (q : Request) (room : ℕ) where
  abbrev r : rules.Request
  r = rules.asked q room

  -- the same request, as it is set up
  same : set_up (rules.asked q 0) ≡ set_up r
  unfolding set_up
  same = refl

  few-definitions : (many : ℕ) → r.count ≤ most_components → N r.components r.count many ≤ most_components
  unfolding N
  few-definitions many h = each (λ n. n ≤ most_components) _ ((λ _. omega arith), λ _. ((λ _. omega arith), λ _. ((λ _. omega arith), λ _. h)))

  tested-fields : Says false (r.count =? 0 or most_components <? r.count) → r.count ≤ lowest (ill r.components) r.count → Tested r.components (fields_of r)
  tested-fields some h = record { few = some.1; well = lowest-none (ill r.components) r.count h; defined = few-definitions (fields_of r).colours some.1 }

  abbrev WhereReady : Told Fields → Type 0
  WhereReady (accepted s) = Tested r.components s
  WhereReady (refused number index) = Unit

  where-ready : WhereReady (set_up r)
  unfolding set_up
  where-ready = each WhereReady _ ((λ _. tt), λ some. ((λ _. tt), λ _. ((λ _. tt), λ h. tested-fields some h)))

  written_as : {e : Told Fields} → e ≡ set_up (rules.asked q 0) → write r ≡ after_set_up r e
  unfolding write
  written_as is = rw (is, same) refl

  pub setup_refused : {number place : ℕ} → refused number place ≡ set_up (rules.asked q 0) → write r ≡ declined number place
  setup_refused is = written_as is

  pub setup_ready : {s : Fields} → accepted s ≡ set_up (rules.asked q 0) → (write r ≡ write_fields r.components s r.profile r.codestream room) × Tested r.components s
  setup_ready {s} is = (written_as is, subst WhereReady (sym (is ∙ same)) where-ready)
