-- What one definition does to the records and to the positions of the channels: the terms of the contracts inside the crate.
use Rattle.std.specs.Prelude.{ℕ, ◌+◌, ◌*◌, ◌≤◌, ◌<◌, ◌≡◌, List, length, get_or, set}
use Rattle.std.specs.Prelude as std
use Rattle.read_record.specs.Component.{alpha, numbers_each}
use Rattle.read_channels.specs.Definitions.{Def, def}
use Rattle.picture_rules.specs.Order.{Arranged, exchange, define}
use Rattle.picture_order.specs.Flat.{number_at}
use Rattle.picture_order.specs.declared.positions.Ask.{Ask}
use Rattle.picture_order.specs.declared.positions.Definition.{Definition}

-- m is l with the records p and q exchanged
abbrev pub Exchanged : ℕ → ℕ → List ℕ → List ℕ → Type 0
Exchanged p q l m = (r k : ℕ) → k < numbers_each → number_at m r k ≡ number_at l (exchange p q r) k

-- the lists say what a says
pub record Agree (n : ℕ) (recs positions : List ℕ) (a : Arranged) : Type 0 where
  pub located : (c : ℕ) → c < n → a.seat c ≡ get_or positions c 0
  pub past : (c : ℕ) → n ≤ c → n ≤ a.seat c
  pub says : (r k : ℕ) → k < numbers_each → a.records r k ≡ number_at recs r k

-- a definition of the code
abbrev pub def_of : Definition → Def
def_of d = def d.channel d.typ d.asoc

-- m is l with d applied
abbrev pub Does : ℕ → ℕ → Def → List ℕ → List ℕ → List ℕ → List ℕ → Type 0
Does n edition2 d l positions m positions' = (a : Arranged) → Agree n l positions a → Agree n m positions' (define edition2 n d a)

-- the records that change places are among n, and once they have and the first is marked the definition is applied
pub record Asked (n edition2 : ℕ) (d : Def) (positions : List ℕ) (r : Ask) (positions' : List ℕ) : Type 0 where
  pub first : r.i < n
  pub second : r.j < n
  pub does : (l m : List ℕ) → numbers_each * n ≤ length l → Exchanged r.i r.j l m → length m ≡ length l → Does n edition2 d l positions (set m (numbers_each * r.i + alpha) r.mark) positions'

-- what a definition asks, and the positions after it: where it asks nothing it is applied as it is
abbrev pub Decided : ℕ → ℕ → Def → List ℕ → std.Option Ask → List ℕ → Type 0
Decided n edition2 d positions std.None positions' = (l : List ℕ) → Does n edition2 d l positions l positions'
Decided n edition2 d positions (std.Some r) positions' = Asked n edition2 d positions r positions'
