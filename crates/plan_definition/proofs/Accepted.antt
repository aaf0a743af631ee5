-- A text is accepted exactly if it is the text of a plan inside the limits, and then its entries are that plan's bins. Assumes nothing.
use Rattle.plan_definition.specs.Accepted.{rest_text, rest_placed, rest_keeps, BinKeeps, GroupKeeps, Rest, ReadAs, TextOf}
use Rattle.std.specs.Prelude.{Bool, true, false, ◌&&◌, ◌≡◌, refl, ℕ, zero, suc, ◌+◌, ◌≤◌, ◌<◌, T, leb, ltb, pos}
use mathlib.Core.List.{List, [], ◌∷◌, ◌++◌, append-nil, append_assoc}
use Rattle.std.proofs.Math.Option.{Option, none, some}
use Rattle.std.proofs.Math.Path.{sym, ap}
use Rattle.std.proofs.Common.{◌∙◌, subst, arith, le-leb, lt-ltb, ltb-true, ltb-false, leb→le, le→leb, ltb→lt, lt→ltb, length-append}
use Rattle.std.specs.Float.Ieee.Fits.{and_l, and_r, and_i}
use Rattle.std.proofs.Math.ListN.{length}
use Rattle.body_refusals.specs.TableChecks.{most_bin}
use Rattle.plan_definition.specs.Places.{Place, total, in_range}
use Rattle.plan_definition.specs.Grammar.{
  Plan,
  nothing,
  bin,
  group,
  Entry,
  entry,
  group_line,
  bin_line,
  close_line,
  plan_text,
  placed,
  most_depth,
  keeps_limits,
  inside_limits,
}
use Rattle.plan_definition.specs.Lines.{Line, Open, Bin, Close, line_of, lines_of, line_text, line_fits}
use Rattle.plan_definition.specs.Reading.{Reading, Refused, Listed, refusal_of, entries_of, outer, plan_of}
use Rattle.plan_definition.specs.LineLaws.{LineOf, line_back, line_exact}
use Rattle.plan_definition.specs.TextLaws.{end_to_end, lines_text, ended_line, ended_cut}
use Rattle.plan_definition.specs.Steps.{
  no_line,
  group_opened,
  group_too_deep,
  bin_placed,
  bin_out_of_range,
  bin_too_many,
  group_closed,
  none_to_close,
  opened_entries,
  bin_entries,
  closed_entries,
}

true_is : (b : Bool) → T b → b ≡ true
true_is true t = refl
true_is false t = absurd t

-- ---- the text of a plan inside the limits is accepted

-- the lines of a line's text and what follows
one_line : (x : Line) (xs : List ℕ) → lines_of (line_text x ++ xs) ≡ line_text x ∷ lines_of xs
one_line x xs = ended_cut (line_text x) xs (ended_line x)

module _ (room : ℕ) (path : List Place) (count : ℕ) (xs : List ℕ) where
  open_text : (o : Place) → T (in_range o) → T (ltb (length path) most_depth) → refusal_of room path count (lines_of (group_line o ++ xs)) ≡ refusal_of room (o ∷ path) count (lines_of xs)
  unfolding line_text line_fits
  open_text o t d = ap (refusal_of room path count) (one_line (Open o) xs) ∙ group_opened room path count (group_line o) (lines_of xs) o (line_back (Open o) t) (true_is _ d)

  bin_text : (n : ℕ) (o : Place) → T (leb n most_bin && in_range o) → T (in_range (total (o ∷ path))) → count < room
      → refusal_of room path count (lines_of (bin_line (pos n) o ++ xs)) ≡ refusal_of room path (suc count) (lines_of xs)
  unfolding line_text line_fits
  bin_text n o t r h = ap (refusal_of room path count) (one_line (Bin n o) xs)
      ∙ bin_placed room path count (bin_line (pos n) o) (lines_of xs) n o (line_back (Bin n o) t) (true_is _ r) (lt-ltb count room h)

  close_text : 0 < length path → refusal_of room path count (lines_of (close_line ++ xs)) ≡ refusal_of room (outer path) count (lines_of xs)
  unfolding line_text line_fits
  close_text h = ap (refusal_of room path count) (one_line Close xs) ∙ group_closed room path count close_line (lines_of xs) (line_back Close tt) (lt-ltb 0 (length path) h)

module _ (path : List Place) (xs : List ℕ) where
  open_listed : (o : Place) → T (in_range o) → entries_of path (lines_of (group_line o ++ xs)) ≡ entries_of (o ∷ path) (lines_of xs)
  unfolding line_text line_fits
  open_listed o t = ap (entries_of path) (one_line (Open o) xs) ∙ opened_entries path (group_line o) (lines_of xs) o (line_back (Open o) t)

  bin_listed : (n : ℕ) (o : Place) → T (leb n most_bin && in_range o) → entries_of path (lines_of (bin_line (pos n) o ++ xs)) ≡ entry (pos n) (total (o ∷ path)) ∷ entries_of path (lines_of xs)
  unfolding line_text line_fits
  bin_listed n o t = ap (entries_of path) (one_line (Bin n o) xs) ∙ bin_entries path (bin_line (pos n) o) (lines_of xs) n o (line_back (Bin n o) t)

  close_listed : entries_of path (lines_of (close_line ++ xs)) ≡ entries_of (outer path) (lines_of xs)
  unfolding line_text line_fits
  close_listed = ap (entries_of path) (one_line Close xs) ∙ closed_entries path close_line (lines_of xs) (line_back Close tt)

pub bin_keeps : (path : List Place) (n : ℕ) (o : Place) (rest : Plan) → T (keeps_limits path (bin n o rest)) → BinKeeps path n o rest
unfolding keeps_limits
bin_keeps path n o rest t =
    let u : T (leb n most_bin && (in_range (total (o ∷ path)) && keeps_limits path rest)) = and_r (in_range o) _ t in
    let v : T (in_range (total (o ∷ path)) && keeps_limits path rest) = and_r (leb n most_bin) _ u in
    record {
      line = and_i (leb n most_bin) (in_range o) (and_l (leb n most_bin) _ u) (and_l (in_range o) _ t);
      place = and_l (in_range (total (o ∷ path))) (keeps_limits path rest) v;
      after = and_r (in_range (total (o ∷ path))) (keeps_limits path rest) v;
    }

pub group_keeps : (path : List Place) (o : Place) (inner rest : Plan) → T (keeps_limits path (group o inner rest)) → GroupKeeps path o inner rest
unfolding keeps_limits
group_keeps path o inner rest t =
    let u : T (ltb (length path) most_depth && (keeps_limits (o ∷ path) inner && keeps_limits path rest)) = and_r (in_range o) _ t in
    let v : T (keeps_limits (o ∷ path) inner && keeps_limits path rest) = and_r (ltb (length path) most_depth) _ u in
    record {
      line = and_l (in_range o) _ t;
      deep = and_l (ltb (length path) most_depth) _ u;
      inside = and_l (keeps_limits (o ∷ path) inner) (keeps_limits path rest) v;
      after = and_r (keeps_limits (o ∷ path) inner) (keeps_limits path rest) v;
    }

-- the text of a group, and what follows
group_text : (o : Place) (inner rest : Plan) (xs : List ℕ) → plan_text (group o inner rest) ++ xs ≡ group_line o ++ (plan_text inner ++ (close_line ++ (plan_text rest ++ xs)))
unfolding plan_text
group_text o inner rest xs = simp append_assoc

-- no line of a plan inside the limits offends
plan_passes : (room : ℕ) (path : List Place) (count : ℕ) (plan : Plan) (xs : List ℕ) → T (keeps_limits path plan) → count + length (placed path plan) ≤ room
    → refusal_of room path count (lines_of (plan_text plan ++ xs)) ≡ refusal_of room path (count + length (placed path plan)) (lines_of xs)
unfolding placed plan_text
plan_passes room path count nothing xs t h = ap (λ (n : ℕ). refusal_of room path n (lines_of xs)) (let e : count ≡ count + 0 = omega arith in e)
plan_passes room path count (bin n o rest) xs t h =
    let k : BinKeeps path n o rest = bin_keeps path n o rest t in
    let few : suc count + length (placed path rest) ≤ room = omega arith in
    ap (λ (cs : List ℕ). refusal_of room path count (lines_of cs)) (append_assoc (bin_line (pos n) o) (plan_text rest) xs)
    ∙ bin_text room path count (plan_text rest ++ xs) n o k.line k.place (omega arith)
    ∙ plan_passes room path (suc count) rest xs k.after few
    ∙ ap (λ (m : ℕ). refusal_of room path m (lines_of xs)) (let e : suc count + length (placed path rest) ≡ count + suc (length (placed path rest)) = omega arith in e)
plan_passes room path count (group o inner rest) xs t h =
    let k : GroupKeeps path o inner rest = group_keeps path o inner rest t in
    let both : length (placed (o ∷ path) inner ++ placed path rest) ≡ length (placed (o ∷ path) inner) + length (placed path rest) = length-append (placed (o ∷ path) inner) (placed path rest) in
    let some_left : 0 < length (o ∷ path) = omega arith in
    ap (λ (cs : List ℕ). refusal_of room path count (lines_of cs)) (group_text o inner rest xs)
    ∙ open_text room path count (plan_text inner ++ (close_line ++ (plan_text rest ++ xs))) o k.line k.deep
    ∙ plan_passes room (o ∷ path) count inner (close_line ++ (plan_text rest ++ xs)) k.inside (omega arith)
    ∙ close_text room (o ∷ path) (count + length (placed (o ∷ path) inner)) (plan_text rest ++ xs) some_left
    ∙ plan_passes room path (count + length (placed (o ∷ path) inner)) rest xs k.after (omega arith)
    ∙ ap (λ (m : ℕ). refusal_of room path m (lines_of xs))
    (let e : count + length (placed (o ∷ path) inner) + length (placed path rest) ≡ count + length (placed (o ∷ path) inner ++ placed path rest) = omega arith in e)

-- its bins are listed
plan_listed : (path : List Place) (plan : Plan) (xs : List ℕ) → T (keeps_limits path plan) → entries_of path (lines_of (plan_text plan ++ xs)) ≡ placed path plan ++ entries_of path (lines_of xs)
unfolding placed plan_text
plan_listed path nothing xs t = refl
plan_listed path (bin n o rest) xs t =
    let k : BinKeeps path n o rest = bin_keeps path n o rest t in
    ap (λ (cs : List ℕ). entries_of path (lines_of cs)) (append_assoc (bin_line (pos n) o) (plan_text rest) xs)
    ∙ bin_listed path (plan_text rest ++ xs) n o k.line
    ∙ ap (λ (es : List Entry). entry (pos n) (total (o ∷ path)) ∷ es) (plan_listed path rest xs k.after)
plan_listed path (group o inner rest) xs t =
    let k : GroupKeeps path o inner rest = group_keeps path o inner rest t in
    ap (λ (cs : List ℕ). entries_of path (lines_of cs)) (group_text o inner rest xs)
    ∙ open_listed path (plan_text inner ++ (close_line ++ (plan_text rest ++ xs))) o k.line
    ∙ plan_listed (o ∷ path) inner (close_line ++ (plan_text rest ++ xs)) k.inside
    ∙ ap (λ (es : List Entry). placed (o ∷ path) inner ++ es) (close_listed (o ∷ path) (plan_text rest ++ xs) ∙ plan_listed path rest xs k.after)
    ∙ sym (append_assoc (placed (o ∷ path) inner) (placed path rest) (entries_of path (lines_of xs)))

listed_if : (room : ℕ) (text : List ℕ) (es : List Entry) → refusal_of room [] 0 (lines_of text) ≡ 0 → entries_of [] (lines_of text) ≡ es → plan_of room text ≡ Listed es
unfolding plan_of
listed_if room text es r e = rw (r, plan_of) (ap Listed e)

-- The text of a plan inside the limits is accepted, and its entries are the plan's bins in the order read, each at the sum along its path.
pub plan_accepted : (room : ℕ) (plan : Plan) → T (inside_limits room plan) → plan_of room (plan_text plan) ≡ Listed (placed [] plan)
unfolding refusal_of entries_of lines_of
plan_accepted room plan t =
    let keeps : T (keeps_limits [] plan) = and_l (keeps_limits [] plan) (leb (length (placed [] plan)) room) t in
    let few : length (placed [] plan) ≤ room = leb→le (length (placed [] plan)) room (and_r (keeps_limits [] plan) (leb (length (placed [] plan)) room) t) in
    let whole : plan_text plan ≡ plan_text plan ++ [] = sym (append-nil (plan_text plan)) in
    listed_if room (plan_text plan) (placed [] plan)
    (ap (λ (cs : List ℕ). refusal_of room [] 0 (lines_of cs)) whole ∙ plan_passes room [] 0 plan [] keeps (omega arith))
    (ap (λ (cs : List ℕ). entries_of [] (lines_of cs)) whole ∙ plan_listed [] plan [] keeps ∙ append-nil (placed [] plan))

-- ---- an accepted text is the text of a plan inside the limits

-- a bin, or a group, before what is left
bin_before : (path : List Place) → ℕ → Place → Rest path → Rest path
unfolding Rest
bin_before [] n o plan = bin n o plan
bin_before (q ∷ path) n o r = (bin n o r.0, r.1)

group_before : (path : List Place) → Place → Plan → Rest path → Rest path
unfolding Rest
group_before [] o inner plan = group o inner plan
group_before (q ∷ path) o inner r = (group o inner r.0, r.1)

bin_before_text : (path : List Place) (n : ℕ) (o : Place) (r : Rest path) → rest_text path (bin_before path n o r) ≡ bin_line (pos n) o ++ rest_text path r
unfolding Rest rest_text bin_before plan_text
bin_before_text [] n o plan = refl
bin_before_text (q ∷ path) n o r = append_assoc (bin_line (pos n) o) (plan_text r.0) (close_line ++ rest_text path r.1)

group_before_text : (path : List Place) (o : Place) (inner : Plan) (r : Rest path) → rest_text path (group_before path o inner r) ≡ group_line o ++ (plan_text inner ++ (close_line ++ rest_text path r))
unfolding Rest rest_text group_before plan_text
group_before_text [] o inner plan = refl
group_before_text (q ∷ path) o inner r = group_text o inner r.0 (close_line ++ rest_text path r.1)

bin_before_placed : (path : List Place) (n : ℕ) (o : Place) (r : Rest path) → rest_placed path (bin_before path n o r) ≡ entry (pos n) (total (o ∷ path)) ∷ rest_placed path r
unfolding Rest rest_placed bin_before placed
bin_before_placed [] n o plan = refl
bin_before_placed (q ∷ path) n o r = refl

group_before_placed : (path : List Place) (o : Place) (inner : Plan) (r : Rest path) → rest_placed path (group_before path o inner r) ≡ placed (o ∷ path) inner ++ rest_placed path r
unfolding Rest rest_placed group_before placed
group_before_placed [] o inner plan = refl
group_before_placed (q ∷ path) o inner r = append_assoc (placed (o ∷ q ∷ path) inner) (placed (q ∷ path) r.0) (rest_placed path r.1)

bin_keeps_back : (path : List Place) (n : ℕ) (o : Place) (rest : Plan) → T (leb n most_bin && in_range o) → T (in_range (total (o ∷ path))) → T (keeps_limits path rest)
    → T (keeps_limits path (bin n o rest))
unfolding keeps_limits
bin_keeps_back path n o rest l p k =
    and_i (in_range o) _ (and_r (leb n most_bin) (in_range o) l)
    (and_i (leb n most_bin) _ (and_l (leb n most_bin) (in_range o) l) (and_i (in_range (total (o ∷ path))) _ p k))

bin_before_keeps : (path : List Place) (n : ℕ) (o : Place) (r : Rest path) → T (leb n most_bin && in_range o) → T (in_range (total (o ∷ path))) → T (rest_keeps path r)
    → T (rest_keeps path (bin_before path n o r))
unfolding Rest rest_keeps bin_before
bin_before_keeps [] n o plan l p k = bin_keeps_back [] n o plan l p k
bin_before_keeps (q ∷ path) n o r l p k =
    and_i (keeps_limits (q ∷ path) (bin n o r.0)) (rest_keeps path r.1)
    (bin_keeps_back (q ∷ path) n o r.0 l p (and_l (keeps_limits (q ∷ path) r.0) (rest_keeps path r.1) k))
    (and_r (keeps_limits (q ∷ path) r.0) (rest_keeps path r.1) k)

group_keeps_back : (path : List Place) (o : Place) (inner rest : Plan) → T (in_range o) → T (ltb (length path) most_depth) → T (keeps_limits (o ∷ path) inner) → T (keeps_limits path rest)
    → T (keeps_limits path (group o inner rest))
unfolding keeps_limits
group_keeps_back path o inner rest l d i k = and_i (in_range o) _ l (and_i (ltb (length path) most_depth) _ d (and_i (keeps_limits (o ∷ path) inner) _ i k))

group_before_keeps : (path : List Place) (o : Place) (inner : Plan) (r : Rest path) → T (in_range o) → T (ltb (length path) most_depth) → T (keeps_limits (o ∷ path) inner) → T (rest_keeps path r)
    → T (rest_keeps path (group_before path o inner r))
unfolding Rest rest_keeps group_before
group_before_keeps [] o inner plan l d i k = group_keeps_back [] o inner plan l d i k
group_before_keeps (q ∷ path) o inner r l d i k =
    and_i (keeps_limits (q ∷ path) (group o inner r.0)) (rest_keeps path r.1)
    (group_keeps_back (q ∷ path) o inner r.0 l d i (and_l (keeps_limits (q ∷ path) r.0) (rest_keeps path r.1) k))
    (and_r (keeps_limits (q ∷ path) r.0) (rest_keeps path r.1) k)

no_refusal : {P : Type 0} (n : ℕ) → suc n ≡ 0 → P
no_refusal {P} n e = absurd (omega arith)

module _ (room : ℕ) (path : List Place) (count : ℕ) (l : List ℕ) (ls : List (List ℕ)) where
  read_bin : (n : ℕ) (o : Place) → line_of l ≡ some (Bin n o) → T (in_range (total (o ∷ path))) → ReadAs room path (suc count) ls → ReadAs room path count (l ∷ ls)
  unfolding end_to_end line_text line_fits
  read_bin n o e p v =
      let line : LineOf l (Bin n o) = line_exact l (Bin n o) e in
      let same : rest_placed path (bin_before path n o v.rest) ≡ entry (pos n) (total (o ∷ path)) ∷ rest_placed path v.rest = bin_before_placed path n o v.rest in
      record {
        rest = bin_before path n o v.rest;
        text = bin_before_text path n o v.rest ∙ ap (λ (cs : List ℕ). cs ++ rest_text path v.rest) line.text ∙ ap (λ (cs : List ℕ). l ++ cs) v.text;
        entries = same ∙ ap (λ (es : List Entry). entry (pos n) (total (o ∷ path)) ∷ es) v.entries ∙ sym (bin_entries path l ls n o e);
        keeps = bin_before_keeps path n o v.rest line.fits p v.keeps;
        few = omega (arith, v.few, ap length same);
      }

  read_group : (o : Place) → line_of l ≡ some (Open o) → T (ltb (length path) most_depth) → ReadAs room (o ∷ path) count ls → ReadAs room path count (l ∷ ls)
  unfolding Rest rest_text rest_placed rest_keeps end_to_end line_text line_fits
  read_group o e d v =
      let line : LineOf l (Open o) = line_exact l (Open o) e in
      let inner : Plan = v.rest.0 in
      let behind : Rest path = v.rest.1 in
      let same : rest_placed path (group_before path o inner behind) ≡ placed (o ∷ path) inner ++ rest_placed path behind = group_before_placed path o inner behind in
      record {
        rest = group_before path o inner behind;
        text = group_before_text path o inner behind ∙ ap (λ (cs : List ℕ). cs ++ (plan_text inner ++ (close_line ++ rest_text path behind))) line.text ∙ ap (λ (cs : List ℕ). l ++ cs) v.text;
        entries = same ∙ v.entries ∙ sym (opened_entries path l ls o e);
        keeps = group_before_keeps path o inner behind line.fits d (and_l (keeps_limits (o ∷ path) inner) (rest_keeps path behind) v.keeps)
            (and_r (keeps_limits (o ∷ path) inner) (rest_keeps path behind) v.keeps);
        few = omega (arith, v.few, ap length same);
      }

read_close : (room : ℕ) (o : Place) (path : List Place) (count : ℕ) (l : List ℕ) (ls : List (List ℕ)) → line_of l ≡ some Close → ReadAs room path count ls → ReadAs room (o ∷ path) count (l ∷ ls)
unfolding Rest rest_text rest_placed rest_keeps end_to_end line_text plan_text placed keeps_limits
read_close room o path count l ls e v =
    let line : LineOf l Close = line_exact l Close e in
    record {
      rest = (nothing, v.rest);
      text = ap (λ (cs : List ℕ). cs ++ rest_text path v.rest) line.text ∙ ap (λ (cs : List ℕ). l ++ cs) v.text;
      entries = v.entries ∙ sym (closed_entries (o ∷ path) l ls e);
      keeps = v.keeps;
      few = v.few;
    }

lines_read : (room : ℕ) (path : List Place) (count : ℕ) (ls : List (List ℕ)) → count ≤ room → refusal_of room path count ls ≡ 0 → ReadAs room path count ls
unfolding refusal_of Rest rest_text rest_placed rest_keeps end_to_end entries_of plan_text placed keeps_limits
lines_read room [] count [] h e = record { rest = nothing; text = refl; entries = refl; keeps = tt; few = omega arith }
lines_read room (o ∷ path) count [] h e = no_refusal 60 e
lines_read room path count (l ∷ ls) h e = line (line_of l) refl (λ p n. lines_read room p n ls)
  where
    at_close : (p : List Place) → line_of l ≡ some Close → refusal_of room p count (l ∷ ls) ≡ 0 → ((q : List Place) → refusal_of room q count ls ≡ 0 → ReadAs room q count ls)
        → ReadAs room p count (l ∷ ls)
    at_close [] x r on = no_refusal 60 (sym (none_to_close room [] count l ls x refl) ∙ r)
    at_close (o ∷ p) x r on = read_close room o p count l ls x (on p (sym (group_closed room (o ∷ p) count l ls x (lt-ltb 0 (length (o ∷ p)) (omega arith))) ∙ r))

    at_open : (o : Place) → line_of l ≡ some (Open o) → (b : Bool) → ltb (length path) most_depth ≡ b → ((q : List Place) → refusal_of room q count ls ≡ 0 → ReadAs room q count ls)
        → ReadAs room path count (l ∷ ls)
    at_open o x true q on =
        read_group room path count l ls o x (lt→ltb (length path) most_depth (ltb-true (length path) most_depth q)) (on (o ∷ path) (sym (group_opened room path count l ls o x q) ∙ e))
    at_open o x false q on = no_refusal 61 (sym (group_too_deep room path count l ls o x q) ∙ e)

    at_room : (n : ℕ) (o : Place) → line_of l ≡ some (Bin n o) → in_range (total (o ∷ path)) ≡ true → (b : Bool) → ltb count room ≡ b
        → (suc count ≤ room → refusal_of room path (suc count) ls ≡ 0 → ReadAs room path (suc count) ls) → ReadAs room path count (l ∷ ls)
    at_room n o x r true q on =
        read_bin room path count l ls n o x (subst T (sym r) tt) (on (ltb-true count room q) (sym (bin_placed room path count l ls n o x r q) ∙ e))
    at_room n o x r false q on = no_refusal 63 (sym (bin_too_many room path count l ls n o x r q) ∙ e)

    at_bin : (n : ℕ) (o : Place) → line_of l ≡ some (Bin n o) → (b : Bool) → in_range (total (o ∷ path)) ≡ b
        → (suc count ≤ room → refusal_of room path (suc count) ls ≡ 0 → ReadAs room path (suc count) ls) → ReadAs room path count (l ∷ ls)
    at_bin n o x true r on = at_room n o x r (ltb count room) refl on
    at_bin n o x false r on = no_refusal 62 (sym (bin_out_of_range room path count l ls n o x r) ∙ e)

    line : (x : Option Line) → line_of l ≡ x → ((p : List Place) (n : ℕ) → n ≤ room → refusal_of room p n ls ≡ 0 → ReadAs room p n ls) → ReadAs room path count (l ∷ ls)
    line none x on = no_refusal 60 (sym (no_line room path count l ls x) ∙ e)
    line (some (Open o)) x on = at_open o x (ltb (length path) most_depth) refl (λ q. on q count h)
    line (some (Bin n o)) x on = at_bin n o x (in_range (total (o ∷ path))) refl (on path (suc count))
    line (some Close) x on = at_close path x e (λ q. on q count h)

-- An accepted text is the text of a plan inside the limits, and its entries are the plan's bins in the order read, each at the sum along its path.
pub accepted_plan : (room : ℕ) (text : List ℕ) (es : List Entry) → plan_of room text ≡ Listed es → TextOf room text es
unfolding plan_of Rest rest_text rest_placed rest_keeps
accepted_plan room text es e = go (refusal_of room [] 0 (lines_of text)) refl
  where
    go : (n : ℕ) → refusal_of room [] 0 (lines_of text) ≡ n → TextOf room text es
    go (suc n) q = let no : Refused (suc n) ≡ Listed es = rw (q, plan_of) at e in let z : ◌≡◌ {A = ℕ} 0 1 = cc in absurd (omega arith)
    go zero q =
        let yes : Listed (entries_of [] (lines_of text)) ≡ Listed es = rw (q, plan_of) at e in
        let same : entries_of [] (lines_of text) ≡ es = cc in
        let v : ReadAs room [] 0 (lines_of text) = lines_read room [] 0 (lines_of text) (omega arith) q in
        record {
          plan = v.rest;
          is = v.text ∙ lines_text text;
          inside = and_i (keeps_limits [] v.rest) _ v.keeps (le→leb (length (placed [] v.rest)) room (omega (arith, v.few)));
          entries = v.entries ∙ same;
        }
