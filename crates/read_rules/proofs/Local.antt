-- What a reading does: it keeps the definition list, or sets it to one inside its bytes and then answers the same whatever bytes it has; and it keeps a property of the record.
-- Assumes nothing.
use Prim.Native.Nat.{ℕ, ◌+◌, ◌*◌, ◌≤◌, ◌<◌}
use mathlib.Core.Path.{◌≡◌, refl, sym, ap, subst, ◌∙◌}
use mathlib.Core.List.{List}
use native.Mathlib.Omega.{arith}
use lib.ListN.{length}
use Rattle.box_header.specs.Box.{length_of_header, box_length}
use Rattle.read_record.specs.declared.Span.{Span}
use Rattle.read_record.specs.declared.Jp2.{Jp2}
use Rattle.read_record.specs.Answer.{Result, accepted, refused}
use Rattle.read_rules.specs.File.{Walked, codestream, ended, file_refused, then_walk}
use Rattle.read_rules.specs.Apart.{entries}
use Rattle.read_rules.proofs.Sames.{Headed}
use Rattle.read_rules.proofs.Parts.{Whole, content, rest, length-content, length_rest, AlikeFrom, equal-before, equal-after, alike-drop, alike-headed, alike-part}
use Rattle.read_rules.proofs.Changes.{Law}

-- R, a reading of bytes c that start at a place, answers the same whatever bytes the definition list n has
abbrev pub Blind : {X : Type 0} → (List ℕ → X) → ℕ → List ℕ → Span → Type 0
Blind R start c n = (e : List ℕ) → AlikeFrom start (entries 6 n) c e → R e ≡ R c

-- the definition list goes from d to n
pub data Local {X : Type 0} (R : List ℕ → X) (start : ℕ) (c : List ℕ) (d n : Span) : Type 0 where
  kept : n ≡ d → Local R start c d n
  set : d.count ≡ 0 → 0 < n.count → start ≤ n.place → n.place + 6 * n.count ≤ start + length c → Blind R start c n → Local R start c d n

-- R depends on the bytes only through S
abbrev pub Through : {X Y : Type 0} → (List ℕ → X) → (List ℕ → Y) → List ℕ → Type 0
Through R S c = (e : List ℕ) → length e ≡ length c → S e ≡ S c → R e ≡ R c

pub carry : {X Y : Type 0} {R : List ℕ → X} {S : List ℕ → Y} {start : ℕ} {c : List ℕ} {d n : Span} → Through R S c → Local S start c d n → Local R start c d n
carry through (kept p) = kept p
carry through (set z m s t f) = set z m s t (λ e a. through e a.long (f e a))

-- a list that was set is free
pub free : {X : Type 0} {R : List ℕ → X} {start : ℕ} {c : List ℕ} {d n : Span} → d.count ≡ 0 → 0 < n.count → Local R start c d n → Blind R start c n
free z h (kept p) = let q = ap (λ (x : Span). x.count) p in absurd (omega arith)
free z h (set y m s t f) = f

-- R of a list with the header of c follows from F of its first box's content and G of the rest
abbrev pub Follows : {X Y Z : Type 0} → (List ℕ → X) → (List ℕ → Y) → (List ℕ → Z) → List ℕ → Type 0
Follows R F G c = (e : List ℕ) → Headed c e → F (content c e) ≡ F (content c c) → G (rest c e) ≡ G (rest c c) → R e ≡ R c

-- a box, then the rest
module _ {X Y Z : Type 0} (R : List ℕ → X) (F : List ℕ → Y) (G : List ℕ → Z) (at : ℕ) (c : List ℕ) (w : Whole c) (whole : Follows R F G c) where
  in_rest : (o : Span) → at + box_length c ≤ o.place → Blind G (at + box_length c) (rest c c) o → Blind R at c o
  in_rest o s g e a =
      whole e (alike-headed a (omega (arith, w.least)) w.header)
      (ap F (equal-before (alike-part a (length_of_header c) (box_length c)) (omega (arith, length-content w))))
      (g (rest c e) (alike-drop a (box_length c)))

  in-content : (n : Span) → at + length_of_header c ≤ n.place → n.place + 6 * n.count ≤ at + length_of_header c + length (content c c) → Blind F (at + length_of_header c) (content c c) n → Blind R at c n
  in-content n s t f e a =
      whole e (alike-headed a s w.header)
      (f (content c e) (alike-part a (length_of_header c) (box_length c)))
      (ap G (equal-after (alike-drop a (box_length c)) (omega (arith, length-content w))))

  join : {d n o : Span} → Local F (at + length_of_header c) (content c c) d n → Local G (at + box_length c) (rest c c) n o → Local R at c d o
  join (kept p) (kept q) = kept (q ∙ p)
  join {d} {n} {o} (kept p) (set z m s t g) = subst (λ (x : Span). Local R at c x o) p (set z m (omega arith) (omega (arith, length_rest w)) (in_rest o s g))
  join {d} {n} {o} (set z m s t f) (kept q) = subst (λ (x : Span). Local R at c d x) (sym q) (set z m (omega arith) (omega (arith, w.within, length-content w)) (in-content n s t f))
  join (set z m s t f) (set y k u v g) = absurd (omega arith)

-- from the record j to m
pub record Moves {X : Type 0} (P : ℕ → Jp2 → Type 0) (R : List ℕ → X) (start : ℕ) (c : List ℕ) (j m : Jp2) : Type 0 where
  pub list : Local R start c j.lists.cdef m.lists.cdef
  pub keeps : P start j → P (start + length c) m

-- a refusal: its number is one of reading's, 1 to 24, and it is at a byte before end
pub record Refuses (number place end : ℕ) : Type 0 where
  pub least : 1 ≤ number
  pub most : number ≤ 24
  pub within : place < end

-- the same of an answer; a refusal is at a byte, and the codestream at a byte or at the end
abbrev pub Reads : {X : Type 0} → (ℕ → Jp2 → Type 0) → (List ℕ → X) → ℕ → List ℕ → Jp2 → Walked → Type 0
Reads P R start c j (codestream offset m) = (offset ≤ start + length c) × Moves P R start c j m
Reads P R start c j (ended m) = Moves P R start c j m
Reads P R start c j (file_refused number place) = Refuses number place (start + length c)

pub refuses : {number place end : ℕ} → 1 ≤ number → number ≤ 24 → place < end → Refuses number place end
refuses a b w = record { least = a; most = b; within = w }

-- it is before a later end too
pub later : {number place e f : ℕ} → Refuses number place e → e ≤ f → Refuses number place f
later r h = record { least = r.least; most = r.most; within = let w = r.within in omega arith }

-- a box and the rest, of answers
module _ {f : List ℕ} {P : ℕ → Jp2 → Type 0} (law : Law f P) {X Y Z : Type 0} (R : List ℕ → X) (F : List ℕ → Y) (G : Jp2 → List ℕ → Z) (at : ℕ) (c : List ℕ) (w : Whole c) where
  both : {k m o : Jp2} → Moves P F (at + length_of_header c) (content c c) k m → Moves P (G m) (at + box_length c) (rest c c) m o → Follows R F (G m) c → Moves P R at c k o
  both {k} {m} {o} x y whole =
      record {
        list = join R F (G m) at c w whole x.list y.list;
        keeps = λ p.
            law.later (at + box_length c + length (rest c c)) (at + length c) (omega (arith, length_rest w))
            (y.keeps (law.later (at + length_of_header c + length (content c c)) (at + box_length c) (omega (arith, length-content w))
            (x.keeps (law.later at (at + length_of_header c) (omega arith) p))));
      }

  pub chain : (k : Jp2) (r : Result) (next : Jp2 → Walked) → Reads P F (at + length_of_header c) (content c c) k (then_walk r ended) → ((m : Jp2) → Reads P (G m) (at + box_length c) (rest c c) m (next m)) → ((m : Jp2) → r ≡ accepted m → Follows R F (G m) c) → Reads P R at c k (then_walk r next)
  chain k (refused number place) next x y whole = later x (omega (arith, w.within, length-content w))
  chain k (accepted m) next x y whole = go (next m) (y m)
    where
      go : (a : Walked) → Reads P (G m) (at + box_length c) (rest c c) m a → Reads P R at c k a
      go (codestream offset o) z = (omega (arith, length_rest w, z.0), both x z.1 (whole m refl))
      go (ended o) z = both x z (whole m refl)
      go (file_refused number place) z = later z (omega (arith, length_rest w))
