-- The uses in the work area are the definition's uses: first users and use counts go by names. Assumes nothing.
use Rattle.edge_uses.specs.UseLaws.{in_shell, no_use, Tells, name_by, Apart}
use Rattle.std.specs.Prelude.{◌≡◌, refl, Bool, ◌&&◌, ◌||◌, cond, List, [], ◌∷◌, ◌++◌, map, ℕ, zero, suc, ◌+◌, ◌*◌, ◌<◌, length, get_or, take, drop, eqb, Float}
use Rattle.std.proofs.Common.{sym, ap, ◌∙◌, subst, le_of_suc-le-suc, not-suc-le-zero, arith, eq-eqb, ne_eqb, get_or-drop}
use Rattle.std.proofs.lemmas.List.{map-append}
use Rattle.std.proofs.Math.Decide.{ℕ_discrete}
use Rattle.lists.specs.Lists.{count_if}
use Rattle.lists.specs.Any.{each_append}
use Rattle.body_rows.specs.Body.{Row, Patch, Triangle, triangles_of, patches_of}
use Rattle.body_rows.specs.Rows.{no_row}
use Rattle.join_definition.specs.Join.{index_of, joined, first_index}
use Rattle.join_definition.specs.Representatives.{same_name_rep, same_rep_name, joined_length, joined_at}
use Rattle.edge_uses.specs.Edges.{Use, triangle_uses, uses_from, same_edge, first_user, uses_of}
use Rattle.edge_uses.specs.Laws.{Names, first_user_lem}
use Rattle.edge_uses.specs.Named.{use_name, row_uses}
use Rattle.edge_uses.specs.NameLaws.{LowUse, names_tell}

-- the uses of rows by their shells' numbers are the definition's uses
pub rows_uses : (f : Row → ℕ) (row : ℕ) (P : List ℕ) (rows : List Row) (ps ns : List Float) (is : List ℕ) → row_uses (map f rows) row P rows is ≡ uses_from f row P (patches_of rows ps ns is)
unfolding row_uses uses_from patches_of
rows_uses f row P [] ps ns is = refl
rows_uses f row P (r ∷ rs) ps ns is =
    ap (λ us. triangle_uses (f r) row P (triangles_of (take r.indices is)) ++ us)
    (rows_uses f (suc row) (drop r.vertices P) rs (drop (3 * r.vertices) ps) (drop (3 * r.vertices) ns) (drop r.indices is))

-- one row's uses with another number for its shell
triangles_in : (g : ℕ → ℕ) (shell row : ℕ) (P : List ℕ) (ts : List Triangle) → triangle_uses (g shell) row P ts ≡ map (in_shell g) (triangle_uses shell row P ts)
unfolding triangle_uses
triangles_in g shell row P [] = refl
triangles_in g shell row P (t ∷ ts) = rw (triangles_in g shell row P ts)

-- all uses with other numbers for their shells
pub uses_in_lem : (g : ℕ → ℕ) (f : Row → ℕ) (row : ℕ) (P : List ℕ) (patches : List Patch) → uses_from (λ r. g (f r)) row P patches ≡ map (in_shell g) (uses_from f row P patches)
unfolding uses_from
uses_in_lem g f row P [] = refl
uses_in_lem g f row P (p ∷ ps) =
    ap (λ us. us ++ uses_from (λ r. g (f r)) (suc row) (drop p.row.vertices P) ps) (triangles_in g (f p.row) row P (triangles_of p.indices))
    ∙ ap (λ us. map (in_shell g) (triangle_uses (f p.row) row P (triangles_of p.indices)) ++ us) (uses_in_lem g f (suc row) (drop p.row.vertices P) ps)
    ∙ sym (map-append (in_shell g) (triangle_uses (f p.row) row P (triangles_of p.indices)) (uses_from f (suc row) (drop p.row.vertices P) ps))

names_of : (name : Use → ℕ) (u : Use) (us : List Use) → ((j : ℕ) → j < length us → same_edge (get_or us j no_use) u ≡ eqb (name u) (name (get_or us j no_use))) → Names name u us
names_of name u [] h = tt
names_of name u (v ∷ vs) h = (h 0 (omega arith), names_of name u vs (λ j l. h (suc j) (omega arith)))

get_d_any : {A : Type 0} (xs : List A) (k : ℕ) (d e : A) → k < length xs → get_or xs k d ≡ get_or xs k e
get_d_any [] k d e h = absurd (not-suc-le-zero h)
get_d_any (x ∷ xs) zero d e h = refl
get_d_any (x ∷ xs) (suc k) d e h = get_d_any xs k d e (le_of_suc-le-suc h)

-- a number of use k
pub get_d_map : (name : Use → ℕ) (us : List Use) (k : ℕ) → k < length us → get_or (map name us) k 0 ≡ name (get_or us k no_use)
get_d_map name [] k h = absurd (not-suc-le-zero h)
get_d_map name (u ∷ us) zero h = refl
get_d_map name (u ∷ us) (suc k) h = get_d_map name us k (le_of_suc-le-suc h)

pub length_named : (name : Use → ℕ) (us : List Use) → length (map name us) ≡ length us
length_named name [] = refl
length_named name (u ∷ us) = ap suc (length_named name us)

-- the first user of a use's edge is the first use of the same name
pub first_at : (name : Use → ℕ) (us : List Use) → Tells name us → (i : ℕ) → i < length us → first_index (map name us) i < length us
    → first_user us (get_or us i no_use) ≡ get_or us (first_index (map name us) i) no_use
unfolding first_index
first_at name us t i h l =
    let u = get_or us i no_use in
    first_user_lem name u us (names_of name u us (λ j m. t i j h m))
    ∙ get_d_any us (index_of (name u) (map name us)) u no_use (subst (λ n. index_of n (map name us) < length us) (get_d_map name us i h) l)
    ∙ ap (λ n. get_or us (index_of n (map name us)) no_use) (sym (get_d_map name us i h))

-- two tests that agree on two lists, item by item, count alike
count_alike : {A B : Type 0} (f : A → Bool) (g : B → Bool) (xs : List A) (ys : List B) (d : A) (e : B) → length xs ≡ length ys → ((j : ℕ) → j < length xs → f (get_or xs j d) ≡ g (get_or ys j e))
    → count_if f xs ≡ count_if g ys
unfolding count_if
count_alike f g [] [] d e l h = refl
count_alike f g [] (y ∷ ys) d e l h = absurd (omega arith)
count_alike f g (x ∷ xs) [] d e l h = absurd (omega arith)
count_alike f g (x ∷ xs) (y ∷ ys) d e l h =
    ap (λ b. cond b (suc (count_if f xs)) (count_if f xs)) (h 0 (omega arith))
    ∙ ap (λ n. cond (g y) (suc n) n) (count_alike f g xs ys d e (omega arith) (λ j m. h (suc j) (omega arith)))

eqb_back : (a b : ℕ) → eqb a b ≡ eqb b a
eqb_back a b = go (ℕ_discrete a b)
  where
    go : Dec (a ≡ b) → eqb a b ≡ eqb b a
    go (yes e) = eq-eqb a b e ∙ sym (eq-eqb b a (sym e))
    go (no n) = ne_eqb a b n ∙ sym (ne_eqb b a (λ e. n (sym e)))

-- an edge has as many uses as there are names like its own
pub count_at_lem : (name : Use → ℕ) (us : List Use) → Tells name us → (i : ℕ) → i < length us → uses_of us (get_or us i no_use) ≡ count_if (eqb (name (get_or us i no_use))) (map name us)
unfolding uses_of
count_at_lem name us t i h =
    count_alike (same_edge (get_or us i no_use)) (eqb (name (get_or us i no_use))) us (map name us) no_use 0 (sym (length_named name us))
    (λ j m. t j i m h ∙ eqb_back (name (get_or us j no_use)) (name (get_or us i no_use)) ∙ ap (eqb (name (get_or us i no_use))) (sym (get_d_map name us j m)))

-- as many items have the first item of a name as have the name
pub count_firsts : (ns : List ℕ) (i : ℕ) → i < length ns → count_if (eqb (first_index ns i)) (joined ns) ≡ count_if (eqb (get_or ns i 0)) ns
count_firsts ns i h =
    count_alike (eqb (first_index ns i)) (eqb (get_or ns i 0)) (joined ns) ns 0 0 (joined_length ns)
    (λ j m. let l : j < length ns = omega (arith, joined_length ns) in ap (eqb (first_index ns i)) (joined_at ns j l) ∙ same j l (ℕ_discrete (get_or ns i 0) (get_or ns j 0)))
  where
    same : (j : ℕ) → j < length ns → Dec (get_or ns i 0 ≡ get_or ns j 0) → eqb (first_index ns i) (first_index ns j) ≡ eqb (get_or ns i 0) (get_or ns j 0)
    same j l (yes e) = eq-eqb (first_index ns i) (first_index ns j) (same_name_rep ns i j e) ∙ sym (eq-eqb (get_or ns i 0) (get_or ns j 0) e)
    same j l (no n) = ne_eqb (first_index ns i) (first_index ns j) (λ e. n (same_rep_name ns i j h l e)) ∙ sym (ne_eqb (get_or ns i 0) (get_or ns j 0) n)

-- ---- points that have names

-- uses behind uses
low_append : (xs ys : List Use) → ((i : ℕ) → LowUse (get_or xs i no_use)) → ((i : ℕ) → LowUse (get_or ys i no_use)) → (i : ℕ) → LowUse (get_or (xs ++ ys) i no_use)
low_append [] ys f g i = g i
low_append (x ∷ xs) ys f g zero = f 0
low_append (x ∷ xs) ys f g (suc i) = low_append xs ys (λ k. f (suc k)) g i

-- one row's uses run between points of the list
pub low_triangles : (shell row : ℕ) (P : List ℕ) (ts : List Triangle) → ((x : ℕ) → get_or P x 0 < 262144) → (i : ℕ) → LowUse (get_or (triangle_uses shell row P ts) i no_use)
unfolding triangle_uses
low_triangles shell row P [] h i = record { start_low = omega arith; end_low = omega arith }
low_triangles shell row P (t ∷ ts) h zero = record { start_low = h t.a; end_low = h t.b }
low_triangles shell row P (t ∷ ts) h (suc zero) = record { start_low = h t.b; end_low = h t.c }
low_triangles shell row P (t ∷ ts) h (suc (suc zero)) = record { start_low = h t.c; end_low = h t.a }
low_triangles shell row P (t ∷ ts) h (suc (suc (suc i))) = low_triangles shell row P ts h i

-- so do all uses
pub low_uses : (f : Row → ℕ) (row : ℕ) (P : List ℕ) (patches : List Patch) → ((x : ℕ) → get_or P x 0 < 262144) → (i : ℕ) → LowUse (get_or (uses_from f row P patches) i no_use)
unfolding uses_from
low_uses f row P [] h i = record { start_low = omega arith; end_low = omega arith }
low_uses f row P (p ∷ ps) h i =
    low_append (triangle_uses (f p.row) row P (triangles_of p.indices)) (uses_from f (suc row) (drop p.row.vertices P) ps)
    (low_triangles (f p.row) row P (triangles_of p.indices) h)
    (low_uses f (suc row) (drop p.row.vertices P) ps (λ x. subst (λ (n : ℕ). n < 262144) (sym (get_or-drop p.row.vertices P x 0)) (h (p.row.vertices + x)))) i

-- ---- the shells of uses

-- one row's uses are of its shell
shells_triangles : (Q : ℕ → Type 0) (shell row : ℕ) (P : List ℕ) (ts : List Triangle) → Q shell
    → (i : ℕ) → i < length (triangle_uses shell row P ts) → Q (get_or (triangle_uses shell row P ts) i no_use).shell
unfolding triangle_uses
shells_triangles Q shell row P [] q i h = absurd (not-suc-le-zero h)
shells_triangles Q shell row P (t ∷ ts) q zero h = q
shells_triangles Q shell row P (t ∷ ts) q (suc zero) h = q
shells_triangles Q shell row P (t ∷ ts) q (suc (suc zero)) h = q
shells_triangles Q shell row P (t ∷ ts) q (suc (suc (suc i))) h = shells_triangles Q shell row P ts q i (omega arith)

-- what holds of each row's shell holds of each use's
pub shells_uses : (Q : ℕ → Type 0) (f : Row → ℕ) (row : ℕ) (P : List ℕ) (rows : List Row) (ps ns : List Float) (is : List ℕ)
    → ((k : ℕ) → k < length rows → Q (f (get_or rows k no_row))) → (i : ℕ) → i < length (uses_from f row P (patches_of rows ps ns is))
    → Q (get_or (uses_from f row P (patches_of rows ps ns is)) i no_use).shell
unfolding uses_from patches_of
shells_uses Q f row P [] ps ns is h i l = absurd (not-suc-le-zero l)
shells_uses Q f row P (r ∷ rs) ps ns is h i l =
    each_append (λ u. Q u.shell) no_use (triangle_uses (f r) row P (triangles_of (take r.indices is)))
    (uses_from f (suc row) (drop r.vertices P) (patches_of rs (drop (3 * r.vertices) ps) (drop (3 * r.vertices) ns) (drop r.indices is)))
    (shells_triangles Q (f r) row P (triangles_of (take r.indices is)) (h 0 (omega arith)))
    (shells_uses Q f (suc row) (drop r.vertices P) rs (drop (3 * r.vertices) ps) (drop (3 * r.vertices) ns) (drop r.indices is) (λ k m. h (suc k) (omega arith))) i l

-- ---- names by shells' numbers

-- then the names tell their edges apart
pub apart_tells : (g : ℕ → ℕ) (us : List Use) → Apart g us → Tells (name_by g) us
unfolding same_edge
apart_tells g us a i j h l =
    let u = get_or us i no_use in
    let v = get_or us j no_use in
    go (ℕ_discrete v.shell u.shell) (names_tell (in_shell g u) (in_shell g v) (record { start_low = (a.low i h).start_low; end_low = (a.low i h).end_low })
    (record { start_low = (a.low j l).start_low; end_low = (a.low j l).end_low }))
  where
    go : Dec ((get_or us j no_use).shell ≡ (get_or us i no_use).shell) → same_edge (in_shell g (get_or us j no_use)) (in_shell g (get_or us i no_use)) ≡ eqb (name_by g (get_or us i no_use)) (name_by g (get_or us j no_use))
        → (eqb (get_or us j no_use).shell (get_or us i no_use).shell && (eqb (get_or us j no_use).start (get_or us i no_use).start && eqb (get_or us j no_use).end (get_or us i no_use).end || eqb
        (get_or us j no_use).start (get_or us i no_use).end && eqb (get_or us j no_use).end (get_or us i no_use).start))
        ≡ eqb (name_by g (get_or us i no_use)) (name_by g (get_or us j no_use))
    go (yes e) t =
        ap (λ b. b && (eqb (get_or us j no_use).start (get_or us i no_use).start && eqb (get_or us j no_use).end (get_or us i no_use).end || eqb (get_or us j no_use).start (get_or us i no_use).end && eqb
        (get_or us j no_use).end (get_or us i no_use).start))
        (eq-eqb (get_or us j no_use).shell (get_or us i no_use).shell e ∙ sym (eq-eqb (g (get_or us j no_use).shell) (g (get_or us i no_use).shell) (ap g e)))
        ∙ t
    go (no n) t =
        ap (λ b. b && (eqb (get_or us j no_use).start (get_or us i no_use).start && eqb (get_or us j no_use).end (get_or us i no_use).end || eqb (get_or us j no_use).start (get_or us i no_use).end && eqb
        (get_or us j no_use).end (get_or us i no_use).start))
        (ne_eqb (get_or us j no_use).shell (get_or us i no_use).shell n ∙ sym (ne_eqb (g (get_or us j no_use).shell) (g (get_or us i no_use).shell) (λ e. n (a.shells j i l h e))))
        ∙ t

-- the edge of use i has as many uses as there are with its first use
pub edge_count : (us : List Use) → Apart (λ s. s) us → (i : ℕ) → i < length us → count_if (eqb (first_index (map use_name us) i)) (joined (map use_name us)) ≡ uses_of us (get_or us i no_use)
edge_count us a i l =
    count_firsts (map use_name us) i (omega (arith, length_named use_name us))
    ∙ ap (λ (n : ℕ). count_if (eqb n) (map use_name us)) (get_d_map use_name us i l)
    ∙ sym (count_at_lem (name_by (λ s. s)) us (apart_tells (λ s. s) us a) i l)
