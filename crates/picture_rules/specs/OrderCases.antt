-- Order alone, as one table that is computed whole: lists of definitions, and definitions that are passed over, in both editions. Planes are named by the record at their position; every record has mark 9 at the start.
use Rattle.std.specs.Prelude.{ℕ, zero, suc, ◌≡◌, refl, List, [], ◌∷◌, ◌++◌}
use Rattle.box_number.specs.Table.{◌=?◌, otherwise, ◌⇒◌∣◌, table}
use Rattle.read_record.specs.Component.{alpha}
use Rattle.read_channels.specs.Definitions.{Def, def}
use Rattle.picture_rules.specs.Edition.{marked_position}
use Rattle.picture_rules.specs.Order.{exchange, define, run_definitions, arranged}

-- a finished plane: its record and its mark
infix 80 ◌mark◌
pub data Plane : Type 0 where
  ◌mark◌ : ℕ → ℕ → Plane

-- a table of definitions over n planes, and the finished planes that each list of them is to give: in edition 1, and in edition 2
infixr 20 ◌planes◌give◌and◌∣◌
pub data Cases : Type 0 where
  end : Cases
  ◌planes◌give◌and◌∣◌ : ℕ → List Def → List Plane → List Plane → Cases → Cases

abbrev pub A : ℕ
A = 0

abbrev pub B : ℕ
B = 1

abbrev pub C : ℕ
C = 2

abbrev pub D : ℕ
D = 3

abbrev pub cases : Cases
cases =
    -- A, B, C with (0,0,3), (1,0,2), (2,0,1): C, B, A
    3 planes def 0 0 3 ∷ def 1 0 2 ∷ def 2 0 1 ∷ [] give C mark 0 ∷ B mark 0 ∷ A mark 9 ∷ [] and C mark 0 ∷ B mark 0 ∷ A mark 0 ∷ [] ∣
    -- A, B, C, D with (2,0,1), (0,0,2), (1,1,0), (3,1,0): C, A, B, D
    4 planes def 2 0 1 ∷ def 0 0 2 ∷ def 1 1 0 ∷ def 3 1 0 ∷ [] give C mark 9 ∷ A mark 0 ∷ B mark 1 ∷ D mark 1 ∷ [] and C mark 0 ∷ A mark 0 ∷ B mark 1 ∷ D mark 1 ∷ [] ∣
    -- (0,1,0), (1,0,1): B, A and A's mark 0; swapped, mark 1
    2 planes def 0 1 0 ∷ def 1 0 1 ∷ [] give B mark 9 ∷ A mark 0 ∷ [] and B mark 0 ∷ A mark 1 ∷ [] ∣
    2 planes def 1 0 1 ∷ def 0 1 0 ∷ [] give B mark 9 ∷ A mark 1 ∷ [] and B mark 0 ∷ A mark 1 ∷ [] ∣
    -- a channel without a record: passed over, whatever its type and asoc; channel 1 of 2 has one
    2 planes def 2 0 1 ∷ [] give A mark 9 ∷ B mark 9 ∷ [] and A mark 9 ∷ B mark 9 ∷ [] ∣
    2 planes def 2 1 2 ∷ def 2 1 0 ∷ def 2 1 65535 ∷ def 65535 1 0 ∷ [] give A mark 9 ∷ B mark 9 ∷ [] and A mark 9 ∷ B mark 9 ∷ [] ∣
    2 planes def 1 1 0 ∷ [] give A mark 9 ∷ B mark 1 ∷ [] and A mark 9 ∷ B mark 1 ∷ [] ∣
    2 planes def 1 0 1 ∷ [] give B mark 9 ∷ A mark 0 ∷ [] and B mark 0 ∷ A mark 9 ∷ [] ∣
    -- an asoc-1 without a record: nothing moves, and nothing is marked, of typ 0 or 1; asoc 2 of 2 has one
    2 planes def 0 0 3 ∷ [] give A mark 9 ∷ B mark 9 ∷ [] and A mark 9 ∷ B mark 9 ∷ [] ∣
    2 planes def 0 1 3 ∷ [] give A mark 9 ∷ B mark 9 ∷ [] and A mark 9 ∷ B mark 9 ∷ [] ∣
    2 planes def 0 0 65534 ∷ def 1 1 65534 ∷ [] give A mark 9 ∷ B mark 9 ∷ [] and A mark 9 ∷ B mark 9 ∷ [] ∣
    2 planes def 0 0 2 ∷ [] give B mark 0 ∷ A mark 9 ∷ [] and B mark 9 ∷ A mark 0 ∷ [] ∣
    2 planes def 0 1 2 ∷ [] give A mark 1 ∷ B mark 9 ∷ [] and A mark 1 ∷ B mark 9 ∷ [] ∣
    -- those passed over change nothing for those after them
    3 planes def 0 0 4 ∷ def 3 0 1 ∷ def 0 0 2 ∷ def 0 1 4 ∷ def 0 2 0 ∷ [] give B mark 0 ∷ A mark 2 ∷ C mark 9 ∷ [] and B mark 9 ∷ A mark 2 ∷ C mark 9 ∷ [] ∣
    -- asoc 0 and 65535 mark, whatever the type; a colour that is in its place is marked too
    2 planes def 0 0 0 ∷ def 1 5 65535 ∷ [] give A mark 0 ∷ B mark 5 ∷ [] and A mark 0 ∷ B mark 5 ∷ [] ∣
    2 planes def 0 0 1 ∷ def 1 65535 1 ∷ [] give A mark 0 ∷ B mark 65535 ∷ [] and A mark 0 ∷ B mark 65535 ∷ [] ∣
    -- a channel defined twice: in edition 2 the last typ is its mark, whether it moves first or last; in edition 1 the move marks the record that takes its place
    2 planes def 0 1 0 ∷ def 0 2 0 ∷ [] give A mark 2 ∷ B mark 9 ∷ [] and A mark 2 ∷ B mark 9 ∷ [] ∣
    2 planes def 0 1 0 ∷ def 0 0 2 ∷ [] give B mark 0 ∷ A mark 1 ∷ [] and B mark 9 ∷ A mark 0 ∷ [] ∣
    2 planes def 0 0 2 ∷ def 0 1 0 ∷ [] give B mark 0 ∷ A mark 1 ∷ [] and B mark 9 ∷ A mark 1 ∷ [] ∣
    -- of two definitions the last is passed over: in edition 2 the first one's typ is the mark
    2 planes def 0 1 0 ∷ def 0 2 3 ∷ [] give A mark 1 ∷ B mark 9 ∷ [] and A mark 1 ∷ B mark 9 ∷ [] ∣
    -- a colour given twice: each channel has its own definition's typ in edition 2, also the one that has to give way
    2 planes def 0 0 1 ∷ def 1 0 1 ∷ [] give B mark 9 ∷ A mark 0 ∷ [] and B mark 0 ∷ A mark 0 ∷ [] ∣
    -- no record at all
    0 planes def 0 0 1 ∷ def 0 1 0 ∷ [] give [] and [] ∣
    end

-- the record of channel r before any definition
unfoldable pub fresh : ℕ → ℕ → ℕ
fresh r k = table (k =? alpha ⇒ 9 ∣ otherwise r)

unfoldable pub finished : ℕ → (ℕ → ℕ → ℕ) → List Plane
finished zero records = []
finished (suc p) records = finished p records ++ (records p 0 mark records p alpha ∷ [])

abbrev pub results : Cases → List (List Plane)
results end = []
results (n planes ds give ps and qs ∣ rest) = finished n (arranged 0 n ds fresh).records ∷ finished n (arranged 1 n ds fresh).records ∷ results rest

abbrev pub expected : Cases → List (List Plane)
expected end = []
expected (n planes ds give ps and qs ∣ rest) = ps ∷ qs ∷ expected rest

pub order_cases : results cases ≡ expected cases
unfolding table marked_position exchange define run_definitions fresh finished
order_cases = refl
