-- Laws of the joining rules. Assumes nothing.
use mathlib.Core.Path.{◌≡◌, refl, sym, ap, subst, ◌∙◌}
use mathlib.Core.Bool.{true, false}
use mathlib.Core.List.{List, [], ◌∷◌, ◌++◌, map}
use Prim.Native.Nat.{ℕ, zero, suc, ◌+◌, ◌*◌, ◌<◌, ◌≤◌}
use native.Mathlib.Omega.{arith}
use native.Mathlib.Nat.{not-suc-le-zero, le_of_suc-le-suc}
use lib.ListN.{length, get_or, take, drop, set, length-map}
use lib.Seq.{take_at, drop_at, drop-drop, length-take-le}
use lib.Ieee.{Float}
use Rattle.point_rules.specs.Rule as Naming
use Rattle.point_rules.specs.Rule.{names, VertexInside}
use Rattle.point_rules.specs.Names.{names_length, names_below}
use Rattle.point_rules.specs.Points.{key, bits, zeros}
use Rattle.point_rules.specs.Bits.{bits_by, digest}
use Rattle.join_table.specs.declared.Source.{Source}
use Rattle.join_points.specs.declared.vertices.Rule.{Rule}
use Rattle.join_points.specs.declared.vertices.Rule.TheVariants.{Key, Bits, Zeros}
use Rattle.join_definition.specs.Join.{joined, first_index, Joined, JoinRoom}
use Rattle.join_table.specs.Naming.{names_of}
use Rattle.join_points.specs.Rules.{rule_of, words_of, source_of, Fit, JoinedPoints}
use Rattle.join_table.specs.Table.{Named, Ready}
use Rattle.join_points.proofs.Loops.{Written, written_more, written_all}

-- ---- words that are the names
pub words_ready : {n : ℕ} {W : List ℕ} → JoinRoom n W → Ready (take n W) n W
words_ready {n} {W} r =
    record {
      room = r.room;
      few = r.few;
      named = record { long = length-take-le n W (omega (arith, r.room)); agree = λ j k _ _ e. e };
    }

-- ---- the words of a rule
map_at : (f : ℕ → ℕ) (xs : List ℕ) (i : ℕ) → i < length xs → get_or (map f xs) i 0 ≡ f (get_or xs i 0)
map_at f [] i l = absurd (not-suc-le-zero l)
map_at f (x ∷ xs) zero l = refl
map_at f (x ∷ xs) (suc i) l = map_at f xs i (le_of_suc-le-suc l)

-- What a rule owes: as many words as vertices, the names found at its source, and words that go by the names.
pub record Lawful (rule : Rule) (ps : List Float) (n : ℕ) : Type 0 where
  pub count : length (words_of rule ps) ≡ n
  pub source : names_of (source_of rule) ps (words_of rule ps) ≡ names (rule_of rule) ps
  pub named : Named (names (rule_of rule) ps) (words_of rule ps) n

-- digests go by the names
digests_named : (rule : Naming.Rule) (ps : List Float) (n : ℕ) → length (names rule ps) ≡ n → Named (names rule ps) (map digest (names rule ps)) n
digests_named rule ps n l =
    record { long = l; agree = λ j k lj lk q. map_at digest (names rule ps) j (omega arith) ∙ ap digest q ∙ sym (map_at digest (names rule ps) k (omega arith)) }

-- each rule owes it and keeps it
pub lawful : (rule : Rule) (ps : List Float) (n : ℕ) → length ps ≡ 3 * n → Lawful rule ps n
unfolding rule_of words_of source_of names_of
lawful Key ps n e =
    record { count = names_length key ps n e; source = refl; named = record { long = names_length key ps n e; agree = λ j k _ _ q. q } }
lawful Bits ps n e =
    let l : length (names bits ps) ≡ n = names_length bits ps n e in
    record { count = length-map (names bits ps) digest ∙ l; source = refl; named = digests_named bits ps n l }
lawful Zeros ps n e =
    let l : length (names zeros ps) ≡ n = names_length zeros ps n e in
    record { count = length-map (names zeros ps) digest ∙ l; source = refl; named = digests_named zeros ps n l }

-- ---- `source_of` and `word_at`, by the cases of the rule
pub source_is : {rule case : Rule} → rule ≡ case → source_of case ≡ source_of rule
source_is e = ap source_of (sym e)

module _ (rule : Rule) (ps : List Float) (i : ℕ) {r : ℕ} where
  -- the word by keys
  pub key_word : rule ≡ Key → r ≡ get_or (names key ps) i 0 → r ≡ get_or (words_of rule ps) i 0
  unfolding words_of
  key_word q e = e ∙ ap (λ (t : Rule). get_or (words_of t ps) i 0) (sym q)

  -- the word by bits, the zeros apart
  pub bits_word : rule ≡ Bits → VertexInside i ps → r ≡ digest (get_or (names (bits_by false) ps) i 0) → r ≡ get_or (words_of rule ps) i 0
  unfolding words_of bits_by
  bits_word q w e = e ∙ sym (map_at digest (names bits ps) i (names_below bits ps i w.low)) ∙ ap (λ (t : Rule). get_or (words_of t ps) i 0) (sym q)

  -- and as one
  pub zeros_word : rule ≡ Zeros → VertexInside i ps → r ≡ digest (get_or (names (bits_by true) ps) i 0) → r ≡ get_or (words_of rule ps) i 0
  unfolding words_of bits_by
  zeros_word q w e = e ∙ sym (map_at digest (names zeros ps) i (names_below zeros ps i w.low)) ∙ ap (λ (t : Rule). get_or (words_of t ps) i 0) (sym q)

-- ---- `write_words`
pub fit_within : {ps : List Float} {n i : ℕ} {v : List ℕ} → Fit n ps v → i < n → VertexInside i ps
fit_within f l = record { low = omega (arith, f.whole) }

module _ (rule : Rule) {ps : List Float} {n : ℕ} {v : List ℕ} (f : Fit n ps v) where
  -- as many words as vertices
  count : length (words_of rule ps) ≡ n
  count = (lawful rule ps n f.whole).count

  -- one word more
  pub fit_more : {i x : ℕ} {w : List ℕ} → Written (words_of rule ps) n v i w → i < n → x ≡ get_or (words_of rule ps) i 0
      → Written (words_of rule ps) n v (i + 1) (set w i x)
  fit_more = written_more count (omega (arith, f.room))

  -- all words
  pub fit_all : {i : ℕ} {w : List ℕ} → Written (words_of rule ps) n v i w → n ≤ i → w ≡ words_of rule ps ++ drop n v
  fit_all = written_all count

  -- ---- `join_points`, with the words written
  module _ {w : List ℕ} {s : Source} (put : w ≡ words_of rule ps ++ drop n v) (at : s ≡ source_of rule) where
    -- the first n words are those of the vertices
    words : take n w ≡ words_of rule ps
    words = ap (take n) put ∙ take_at (words_of rule ps) (drop n v) n count

    -- those behind the table are as they were
    behind : drop (4 * n) w ≡ drop (4 * n) v
    behind =
        ap (λ (k : ℕ). drop k w) split
        ∙ sym (drop-drop (3 * n) n w)
        ∙ ap (drop (3 * n)) (ap (drop n) put ∙ drop_at (words_of rule ps) (drop n v) n count)
        ∙ drop-drop (3 * n) n v
        ∙ ap (λ (k : ℕ). drop k v) (sym split)
      where
        split : 4 * n ≡ n + 3 * n
        split = omega arith

    -- the names are those of the rule
    named : names_of s ps (take n w) ≡ names (rule_of rule) ps
    named = (λ k. names_of (at k) ps (words k)) ∙ (lawful rule ps n f.whole).source

    -- the vertices are ready to be joined
    pub points_ready : length w ≡ length v → Ready (names_of s ps (take n w)) n w
    points_ready e =
        record {
          room = omega (arith, f.room);
          few = f.few;
          named =
              subst (λ l. Named l (take n w) n) (sym named)
              (subst (λ l. Named (names (rule_of rule) ps) l n) (sym words) (lawful rule ps n f.whole).named);
        }

    -- and are joined by the rule
    pub points_joined : {E : List ℕ} → Joined (names_of s ps (take n w)) n w E → JoinedPoints rule ps n v E
    points_joined j =
        record {
          reps = j.reps ∙ ap joined named;
          rep = λ i l. j.rep i l ∙ ap (λ ns. first_index ns i) named;
          words = j.words ∙ words;
          rest = j.rest ∙ behind;
        }
