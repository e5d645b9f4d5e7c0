-- Files of records with lines put at their end, with a line replaced, and with a line struck: they are files
-- of records again, the edit can be taken back, and the sums move by what the lines pay.
use Rattle.std.proofs.Common.{◌≡◌, ℕ, zero, suc, ◌+◌, ◌-◌, ◌<◌, ◌≤◌, true, List, [], ◌∷◌, ◌++◌, length, take, drop, sym, refl, ap, ◌∙◌, subst, append-nil, add_assoc, zero-add, arith, length-append, take-append-drop}
use Rattle.std.proofs.lemmas.List.{length-take-le, take_at, drop_at, drop-drop}
use Rattle.layouts.specs.declared.field.Field.{Field}
use Rattle.layouts.specs.Layouts.{is_lawful}
use Rattle.lines.specs.Belongs.{Belongs}
use Rattle.files.specs.Lines.{lines_of, rest_of, written}
use Rattle.files.specs.Files.{Records, FileOf}
use Rattle.files.specs.Totals.{worth, sum_of}
use Rattle.files.proofs.Cuts.{cutting}
use Rattle.files.proofs.FileLaws.{records-whole}
use Rattle.changes.specs.Edits.{has_line, line_of, replaced, struck, inserted}
use Rattle.changes.proofs.PlaceLaws.{written-append, has-line, line-there, from-line}

records-append : (ls : List (List Field)) (xs ys : List (List ℕ)) → Records ls xs → Records ls ys → Records ls (xs ++ ys)
records-append ls [] ys a b = b
records-append ls (x ∷ xs) ys a b = (a.0, records-append ls xs ys a.1 b)

records-take : (ls : List (List Field)) (n : ℕ) (xs : List (List ℕ)) → Records ls xs → Records ls (take n xs)
records-take ls zero xs h = tt
records-take ls (suc n) [] h = tt
records-take ls (suc n) (x ∷ xs) h = (h.0, records-take ls n xs h.1)

records-drop : (ls : List (List Field)) (n : ℕ) (xs : List (List ℕ)) → Records ls xs → Records ls (drop n xs)
records-drop ls zero xs h = h
records-drop ls (suc n) [] h = tt
records-drop ls (suc n) (x ∷ xs) h = records-drop ls n xs h.1

pub sum-append : (ls : List (List Field)) (currency : List ℕ) (xs ys : List (List ℕ)) → sum_of ls currency (xs ++ ys) ≡ sum_of ls currency xs + sum_of ls currency ys
sum-append ls currency [] ys = sym (zero-add (sum_of ls currency ys))
sum-append ls currency (x ∷ xs) ys =
    ap (λ m. worth ls currency x + m) (sum-append ls currency xs ys) ∙ sym (add_assoc (worth ls currency x) (sum_of ls currency xs) (sum_of ls currency ys))

-- the lines before line n, and those behind it
abbrev pub before : ℕ → List ℕ → List (List ℕ)
before n f = take (n - 1) (lines_of f)

abbrev pub behind : ℕ → List ℕ → List (List ℕ)
behind n f = drop n (lines_of f)

-- edits of bytes behind whose last CR LF nothing stands
module _ (n : ℕ) (l f : List ℕ) (rs : List (List ℕ)) (lines : lines_of f ≡ rs) (rest : rest_of f ≡ []) where
  replaced-by : replaced n l f ≡ written (take (n - 1) rs ++ l ∷ drop n rs)
  unfolding replaced
  replaced-by = (λ i. written (take (n - 1) (lines i) ++ l ∷ drop n (lines i)) ++ rest i) ∙ append-nil _

  struck-by : struck n f ≡ written (take (n - 1) rs ++ drop n rs)
  unfolding struck
  struck-by = (λ i. written (take (n - 1) (lines i) ++ drop n (lines i)) ++ rest i) ∙ append-nil _

  inserted_by : inserted n l f ≡ written (take (n - 1) rs ++ l ∷ drop (n - 1) rs)
  unfolding inserted
  inserted_by = (λ i. written (take (n - 1) (lines i) ++ l ∷ drop (n - 1) (lines i)) ++ rest i) ∙ append-nil _

module _ (ls : List (List Field)) (law : is_lawful ls ≡ true) where
  -- bytes that records are written to have these lines, and no rest
  cut : (f : List ℕ) (rs : List (List ℕ)) → f ≡ written rs → Records ls rs → (rs ≡ lines_of f) × ([] ≡ rest_of f)
  cut f rs e h = (cutting f).only rs [] (e ∙ sym (append-nil (written rs))) (records-whole ls rs law h) refl

  pub lines_are : (f : List ℕ) (rs : List (List ℕ)) → f ≡ written rs → Records ls rs → lines_of f ≡ rs
  lines_are f rs e h = sym (cut f rs e h).0

  rest-none : (f : List ℕ) (rs : List (List ℕ)) → f ≡ written rs → Records ls rs → rest_of f ≡ []
  rest-none f rs e h = sym (cut f rs e h).1

  -- records at the end
  pub appended-file : (f d : List ℕ) (ds : List (List ℕ)) → FileOf ls f (lines_of f) → d ≡ written ds → Records ls ds → length (lines_of (f ++ d)) ≤ 1200 → FileOf ls (f ++ d) (lines_of f ++ ds)
  appended-file f d ds file more each few =
      let joint : f ++ d ≡ written (lines_of f ++ ds) = (λ i. file.writing i ++ more i) ∙ sym (written-append (lines_of f) ds) in
      let good = records-append ls (lines_of f) ds file.each each in
      record { writing = joint; few = subst (λ x. length x ≤ 1200) (lines_are (f ++ d) (lines_of f ++ ds) joint good) few; each = good }

  -- a line that is there
  module _ (n : ℕ) (f : List ℕ) (file : FileOf ls f (lines_of f)) (has : has_line n f ≡ true) where
    some : 0 < n
    some = (line-there n f has).0

    parted : lines_of f ≡ before n f ++ line_of n f ∷ behind n f
    parted = sym (take-append-drop (n - 1) (lines_of f)) ∙ ap (λ x. before n f ++ x) (from-line n f has)

    front : length (before n f) ≡ n - 1
    front = let h = (line-there n f has).1 in length-take-le (n - 1) (lines_of f) (omega arith)

    count : length (before n f) + (length (behind n f) + 1) ≤ 1200
    count = omega (arith, file.few, ap length parted, length-append (before n f) (line_of n f ∷ behind n f))

    good-before : Records ls (before n f)
    good-before = records-take ls (n - 1) (lines_of f) file.each

    good-behind : Records ls (behind n f)
    good-behind = records-drop ls n (lines_of f) file.each

    rest : rest_of f ≡ []
    rest = rest-none f (lines_of f) file.writing file.each

    -- the old line between its neighbours again
    whole_again : (xs ys : List (List ℕ)) → xs ≡ before n f → ys ≡ behind n f → written (xs ++ line_of n f ∷ ys) ≡ f
    whole_again xs ys a b = (λ i. written (a i ++ line_of n f ∷ b i)) ∙ ap written (sym parted) ∙ sym file.writing

    module _ (l : List ℕ) (good : Belongs ls l) where
      pub replaced-file : FileOf ls (replaced n l f) (before n f ++ l ∷ behind n f)
      replaced-file = record {
        writing = replaced-by n l f (lines_of f) refl rest;
        few = let c = count in omega (arith, length-append (before n f) (l ∷ behind n f));
        each = records-append ls (before n f) (l ∷ behind n f) good-before (good, good-behind);
      }

      new-lines : lines_of (replaced n l f) ≡ before n f ++ l ∷ behind n f
      new-lines = lines_are (replaced n l f) (before n f ++ l ∷ behind n f) replaced-file.writing replaced-file.each

      pub replaced-has : has_line n (replaced n l f) ≡ true
      replaced-has =
          let a = some in
          let b = front in
          has-line n (replaced n l f) a (omega (arith, ap length new-lines, length-append (before n f) (l ∷ behind n f)))

      pub replaced-back : replaced n (line_of n f) (replaced n l f) ≡ f
      replaced-back =
          let a = some in
          let rs = before n f ++ l ∷ behind n f in
          let one : n ≡ n - 1 + 1 = omega arith in
          let high : drop n rs ≡ behind n f =
          ap (λ m. drop m rs) one ∙ sym (drop-drop 1 (n - 1) rs) ∙ ap (drop 1) (drop_at (before n f) (l ∷ behind n f) (n - 1) front) in
          replaced-by n (line_of n f) (replaced n l f) rs new-lines (rest-none (replaced n l f) rs replaced-file.writing replaced-file.each)
          ∙ whole_again (take (n - 1) rs) (drop n rs) (take_at (before n f) (l ∷ behind n f) (n - 1) front) high

      pub replaced-sum : (currency : List ℕ) → sum_of ls currency (before n f ++ l ∷ behind n f) + worth ls currency (line_of n f) ≡ sum_of ls currency (lines_of f) + worth ls currency l
      replaced-sum currency =
          omega (arith, sum-append ls currency (before n f) (l ∷ behind n f), sum-append ls currency (before n f) (line_of n f ∷ behind n f), ap (sum_of ls currency) parted)

    pub struck-file : FileOf ls (struck n f) (before n f ++ behind n f)
    struck-file = record {
      writing = struck-by n [] f (lines_of f) refl rest;
      few = let c = count in omega (arith, length-append (before n f) (behind n f));
      each = records-append ls (before n f) (behind n f) good-before good-behind;
    }

    left-lines : lines_of (struck n f) ≡ before n f ++ behind n f
    left-lines = lines_are (struck n f) (before n f ++ behind n f) struck-file.writing struck-file.each

    pub struck-fits : (0 < n) × (n ≤ length (lines_of (struck n f)) + 1)
    struck-fits =
        let a = some in
        let b = front in
        (a, omega (arith, ap length left-lines, length-append (before n f) (behind n f)))

    pub struck-back : inserted n (line_of n f) (struck n f) ≡ f
    struck-back =
        let rs = before n f ++ behind n f in
        inserted_by n (line_of n f) (struck n f) rs left-lines (rest-none (struck n f) rs struck-file.writing struck-file.each)
        ∙ whole_again (take (n - 1) rs) (drop (n - 1) rs) (take_at (before n f) (behind n f) (n - 1) front) (drop_at (before n f) (behind n f) (n - 1) front)

    pub struck-sum : (currency : List ℕ) → sum_of ls currency (before n f ++ behind n f) + worth ls currency (line_of n f) ≡ sum_of ls currency (lines_of f)
    struck-sum currency =
        omega (arith, sum-append ls currency (before n f) (behind n f), sum-append ls currency (before n f) (line_of n f ∷ behind n f), ap (sum_of ls currency) parted)
