-- What holds of every order, and of definitions that clash nowhere; in both editions where nothing else is said.
use Rattle.std.specs.Prelude.{ℕ, ◌-◌, ◌≤◌, ◌<◌, ◌≡◌, true, false, List, length, get_or}
use Rattle.box_number.specs.Table.{Says}
use Rattle.read_record.specs.Component.{alpha}
use Rattle.read_channels.specs.Definitions.{Def, def}
use Rattle.picture_rules.specs.Definitions.{Colour, misnames, times, Reordered}
use Rattle.picture_rules.specs.Edition.{order_free_numbers}
use Rattle.picture_rules.specs.Order.{arranged}

-- channels and positions below n, each channel at one position and each position with one channel
pub record Pairing (n : ℕ) : Type 0 where
  pub to : ℕ → ℕ
  pub from : ℕ → ℕ
  pub to_below : (c : ℕ) → c < n → to c < n
  pub from-below : (p : ℕ) → p < n → from p < n
  pub from-to : (c : ℕ) → c < n → from (to c) ≡ c
  pub to-from : (p : ℕ) → p < n → to (from p) ≡ p

-- definition j of a list
abbrev pub definition_at : List Def → ℕ → Def
definition_at ds j = get_or ds j (def 0 0 0)

-- no channel is defined twice, and no colour number given twice
abbrev pub Once : List Def → Type 0
Once ds =
    (i j : ℕ) → i < j → j < length ds →
    let d = definition_at ds i in
    let e = definition_at ds j in
    (d.channel ≡ e.channel → ⊥) × (Colour d → Colour e → d.asoc ≡ e.asoc → ⊥)

-- a run of definitions pairs the channels with the positions: the record of channel c, its mark aside, is at position `to c`
pub record Paired (edition2 n : ℕ) (ds : List Def) (records : ℕ → ℕ → ℕ) : Type 0 where
  pub pairing : Pairing n
  pub seats : (c : ℕ) → c < n → (arranged edition2 n ds records).seat c ≡ pairing.to c
  pub stands : (c k : ℕ) → c < n → k < alpha → (arranged edition2 n ds records).records (pairing.to c) k ≡ records c k

-- clashing definitions too
abbrev pub OrderPairs : Type 0
OrderPairs = (edition2 n : ℕ) (ds : List Def) (records : ℕ → ℕ → ℕ) → Paired edition2 n ds records

-- where definitions clash nowhere, the channel of a colour definition is at the position that its colour number gives
abbrev pub ColourLands : Type 0
ColourLands =
    (edition2 n : ℕ) (ds : List Def) (records : ℕ → ℕ → ℕ) → Once ds →
    (d : Def) → 0 < times d ds → Colour d → d.channel < n → d.asoc ≤ n →
    (arranged edition2 n ds records).seat d.channel ≡ d.asoc - 1

-- and their order does not matter, in edition 1 marks aside; there are fewer channels than asoc has numbers
abbrev pub OrderFree : Type 0
OrderFree =
    (edition2 n : ℕ) (ds es : List Def) (records : ℕ → ℕ → ℕ) → n < 65536 → Once ds → Reordered ds es →
    (p k : ℕ) → k < order_free_numbers edition2 → (arranged edition2 n ds records).records p k ≡ (arranged edition2 n es records).records p k

-- of the definitions of channel c, number j is the last that is not passed over
pub record LastFor (n : ℕ) (ds : List Def) (c j : ℕ) : Type 0 where
  pub below : j < length ds
  pub names : (definition_at ds j).channel ≡ c
  pub counts : Says false (misnames n (definition_at ds j))
  pub last : (i : ℕ) → j < i → i < length ds → (definition_at ds i).channel ≡ c → Says true (misnames n (definition_at ds i))

-- edition 2, clashing definitions too: wherever the record of channel c is, its mark is the typ of that definition; where all definitions of the channel are passed over, it is the mark that it had
pub record OrderMarks : Type 0 where
  pub last :
      (edition2 n : ℕ) (ds : List Def) (records : ℕ → ℕ → ℕ) → (edition2 ≡ 0 → ⊥) → (c j : ℕ) → LastFor n ds c j →
      let a = arranged edition2 n ds records in
      a.records (a.seat c) alpha ≡ (definition_at ds j).typ
  pub kept :
      (edition2 n : ℕ) (ds : List Def) (records : ℕ → ℕ → ℕ) → (edition2 ≡ 0 → ⊥) → (c : ℕ) →
      ((j : ℕ) → j < length ds → (definition_at ds j).channel ≡ c → Says true (misnames n (definition_at ds j))) →
      let a = arranged edition2 n ds records in
      a.records (a.seat c) alpha ≡ records c alpha
