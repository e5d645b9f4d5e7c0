-- Steps that are known to end well, written one after another.
use Rattle.std.proofs.Common.{◌≡◌, ℕ, suc, ◌+◌, ◌-◌, ◌*◌, ◌^◌, ◌<◌, ◌≤◌, Bool, true, ltb, List, [], ◌∷◌, ◌++◌, length, get_or, take, drop, sym, refl, ap, ◌∙◌, subst, append-nil, arith, length-append, take-append-drop}
use borrow.Author.Tests.{clash}
use borrow.Rule.Slice.PartMut.{put_mid}
use Rattle.std.proofs.lemmas.List.{drop-drop, drop_more, length-take, length-drop}
use Rattle.std.proofs.lemmas.Bool.{and_parts, ltb-true}
use Rattle.layouts.specs.declared.field.Field.{Field}
use Rattle.basics.specs.Decimals.{digits}
use Rattle.layouts.specs.Kinds.{Part, Shape, shape, count, line, width}
use Rattle.values.specs.declared.row.ValueRow.{ValueRow}
use Rattle.values.specs.Writing.{suits, written, Step, done, refused, before, chain, row_step, line_steps, first_number, field_step, placed, field_steps}
use Rattle.writing.specs.declared.size.Size.{Size}
use Rattle.writing.specs.Sizes.{is_done, bytes_of, size_of, in_front}
use Rattle.values.proofs.FieldLaws.{chained, placed-done}
use Rattle.writing.proofs.StepLaws.{before-before, row_done, lines-tail, field-tail, tail-size}
use Rattle.writing.proofs.SizeLaws.{first-is}
use Rattle.writing.proofs.Memory.{put-exact, put_rest, front-then, behind-then}

-- a step that ends well
pub record Ends {E : Type 0} (x : Step E) : Type 0 where
  pub wrote : List ℕ
  pub rest : List ValueRow
  pub is : x ≡ done wrote rest

pub ends : {E : Type 0} (x : Step E) → is_done x ≡ true → Ends x
ends (done s r) h = record { wrote = s; rest = r; is = refl }
ends (refused e) h = absurd (clash h)

-- of steps that end well, the next one does
pub record Next {E : Type 0} (whole : Step E) (a : List ℕ) (x : Step E) (k : List ValueRow → Step E) : Type 0 where
  pub wrote : List ℕ
  pub rest : List ValueRow
  pub is : x ≡ done wrote rest
  pub room : length a + length wrote ≤ length (bytes_of whole)
  pub more : whole ≡ before (a ++ wrote) (k rest)

room_for : {E : Type 0} (a b : List ℕ) (y : Step E) → is_done (before a (before b y)) ≡ true → length a + length b ≤ length (bytes_of (before a (before b y)))
room_for a b (done s r) h = let m = length-append a (b ++ s) in let n = length-append b s in omega arith
room_for a b (refused e) h = absurd (clash h)

next-at : {E : Type 0} (a : List ℕ) (x : Step E) (k : List ValueRow → Step E) → is_done (before a (chain x k)) ≡ true → Next (before a (chain x k)) a x k
next-at a (done b r) k h = record { wrote = b; rest = r; is = refl; room = room_for a b (k r) h; more = before-before a b (k r) }
next-at a (refused e) k h = absurd (clash h)

pub next : {E : Type 0} (whole : Step E) (a : List ℕ) (x : Step E) (k : List ValueRow → Step E) → is_done whole ≡ true → whole ≡ before a (chain x k) → Next whole a x k
next whole a x k h e = subst (λ y. Next y a x k) (sym e) (next-at a x k (ap is_done (sym e) ∙ h))

-- memory: so many bytes are written, the others stand as they did
pub record Sofar {E : Type 0} (whole : Step E) (old out : List ℕ) (p : ℕ) (left : Step E) : Type 0 where
  pub within : p ≤ length out
  pub same : length out ≡ length old
  pub front : whole ≡ before (take p out) left
  pub behind : drop p out ≡ drop p old

pub sofar-more : {E : Type 0} (whole : Step E) (old out new : List ℕ) (p : ℕ) (x : Step E) (k : List ValueRow → Step E) (n : Next whole (take p out) x k) → Sofar whole old out p (chain x k) → p + length n.wrote ≤ length out → new ≡ (take p out ++ n.wrote) ++ drop (p + length n.wrote) out → Sofar whole old new (p + length n.wrote) (k n.rest)
sofar-more whole old out new p x k n s l e =
    let b = n.wrote in
    let f = front-then p out b l new e in
    let h = behind-then p out b l new e in
    let long : length new ≡ length out = ap length e ∙ length-append (take p out ++ b) (drop (p + length b) out) ∙ (let a = length-append (take p out) b in let t = length-take p out in let d = length-drop (p + length b) out in omega arith) in
    let within = s.within in
    record {
      within = omega arith;
      same = long ∙ s.same;
      front = n.more ∙ ap (λ a. before a (k n.rest)) (sym f);
      behind = h ∙ sym (drop-drop (length b) p out) ∙ ap (drop (length b)) s.behind ∙ drop-drop (length b) p old;
    }

pub sofar-end : {E : Type 0} (whole : Step E) (old out : List ℕ) (p : ℕ) (rest : List ValueRow) → Sofar whole old out p (done [] rest) → out ≡ in_front (bytes_of whole) old
sofar-end whole old out p rest s =
    let w : bytes_of whole ≡ take p out = ap bytes_of s.front ∙ append-nil (take p out) in
    let within = s.within in
    let n : length (take p out) ≡ p = let t = length-take p out in omega arith in
    sym (ap (λ a. in_front a old) w ∙ ap (λ k. take p out ++ drop k old) n ∙ ap (λ x. take p out ++ x) (sym s.behind) ∙ take-append-drop p out)

-- one line more of a block
module _ (ok : List ℕ → Bool) (n : ℕ) (bytes : List ℕ) (rs : List ValueRow) (old out : List ℕ) (k : ℕ) where
  abbrev pub LinesSofar : Type 0
  LinesSofar = Sofar (line_steps ok n bytes rs) old out (35 * k) (line_steps ok (n - k) bytes (drop k rs))

  at-line : k < n → LinesSofar → Sofar (line_steps ok n bytes rs) old out (35 * k) (chain (row_step (line ok) bytes (drop k rs)) (line_steps ok (n - (k + 1)) bytes))
  at-line l s = let m : n - k ≡ suc (n - (k + 1)) = omega arith in subst (λ x. Sofar (line_steps ok n bytes rs) old out (35 * k) (line_steps ok x bytes (drop k rs))) m s

  the-next : is_done (line_steps ok n bytes rs) ≡ true → k < n → LinesSofar → Next (line_steps ok n bytes rs) (take (35 * k) out) (row_step (line ok) bytes (drop k rs)) (line_steps ok (n - (k + 1)) bytes)
  the-next h l s = next (line_steps ok n bytes rs) (take (35 * k) out) (row_step (line ok) bytes (drop k rs)) (line_steps ok (n - (k + 1)) bytes) h (at-line l s).front

  -- the row of the line is there, and suits
  pub line_row : is_done (line_steps ok n bytes rs) ≡ true → k < n → LinesSofar → (d : ValueRow) → (k < length rs) × (suits (line ok) bytes (get_or rs k d) ≡ true)
  line_row h l s d =
      let x = the-next h l s in
      let r = row_done (line ok) bytes (drop k rs) x.wrote x.rest x.is in
      let some = r.some in
      let m = length-drop k rs in
      let inside : k < length rs = omega arith in
      (inside, ap (suits (line ok) bytes) (sym (ap (λ y. get_or y 0 d) (drop_more rs k d inside))) ∙ r.suited d)

  pub lines-put : (new last : List ℕ) (d : ValueRow) (w : ℕ) → is_done (line_steps ok n bytes rs) ≡ true → k < n → 35 * n ≤ length old → LinesSofar → w ≡ 35 → last ≡ written (line ok) bytes (get_or rs k d) → new ≡ put_mid (35 * k) w out last → Sofar (line_steps ok n bytes rs) old new (35 * (k + 1)) (line_steps ok (n - (k + 1)) bytes (drop (k + 1) rs))
  lines-put new last d w h l room s e is made =
      let x = the-next h l s in
      let r = row_done (line ok) bytes (drop k rs) x.wrote x.rest x.is in
      let some = r.some in
      let m = length-drop k rs in
      let inside : k < length rs = omega arith in
      let b : last ≡ x.wrote = is ∙ ap (written (line ok) bytes) (sym (ap (λ y. get_or y 0 d) (drop_more rs k d inside))) ∙ r.wrote d in
      let wide : length x.wrote ≡ 35 = r.wide in
      let same = s.same in
      let fits : 35 * k + length x.wrote ≤ length out = omega arith in
      let put = put-exact (35 * k) out x.wrote fits w (e ∙ sym wide) in
      let t = sofar-more (line_steps ok n bytes rs) old out new (35 * k) (row_step (line ok) bytes (drop k rs)) (line_steps ok (n - (k + 1)) bytes) x (at-line l s) fits (made ∙ ap (put_mid (35 * k) w out) b ∙ put) in
      let to : 35 * k + length x.wrote ≡ 35 * (k + 1) = omega arith in
      subst (λ y. Sofar (line_steps ok n bytes rs) old new y (line_steps ok (n - (k + 1)) bytes (drop (k + 1) rs))) to
      (subst (λ y. Sofar (line_steps ok n bytes rs) old new (35 * k + length x.wrote) (line_steps ok (n - (k + 1)) bytes y)) (r.tail ∙ drop-drop 1 k rs) t)

  pub lines-all : n ≡ k → LinesSofar → out ≡ in_front (bytes_of (line_steps ok n bytes rs)) old
  lines-all e s =
      let z : n - k ≡ 0 = omega arith in
      sofar-end (line_steps ok n bytes rs) old out (35 * k) (drop k rs) (subst (λ x. Sofar (line_steps ok n bytes rs) old out (35 * k) (line_steps ok x bytes (drop k rs))) z s)

-- one row in front of the memory
module _ (q : Part) (bytes : List ℕ) (rs : List ValueRow) (h : is_done (row_step q bytes rs) ≡ true) where
  pub row-wide : length (bytes_of (row_step q bytes rs)) ≡ width q
  row-wide = let x = ends (row_step q bytes rs) h in let r = row_done q bytes rs x.wrote x.rest x.is in ap (λ y. length (bytes_of y)) x.is ∙ r.wide

-- a block: its count, and then its lines
pub record BlockEnds (counts : ℕ → Bool) (ok : List ℕ → Bool) (bytes : List ℕ) (rs us : List ValueRow) (n : ℕ) : Type 0 where
  pub few : n < 100
  pub lines : is_done (line_steps ok n bytes us) ≡ true
  pub wide : length (bytes_of (line_steps ok n bytes us)) ≡ 35 * n
  pub text : bytes_of (chain (row_step (count counts) bytes rs) (line_steps ok (first_number rs) bytes)) ≡ digits 2 n ++ bytes_of (line_steps ok n bytes us)
  pub size : record { bytes = 2 + 35 * n; rows = 1 + n } ≡ size_of (length rs) (chain (row_step (count counts) bytes rs) (line_steps ok (first_number rs) bytes))

pub block-ends : (counts : ℕ → Bool) (ok : List ℕ → Bool) (bytes : List ℕ) (rs us : List ValueRow) (d : ValueRow) → us ≡ drop 1 rs → is_done (chain (row_step (count counts) bytes rs) (line_steps ok (first_number rs) bytes)) ≡ true → BlockEnds counts ok bytes rs us (get_or rs 0 d).number
block-ends counts ok bytes rs us d u h =
    let whole : Step ℕ = chain (row_step (count counts) bytes rs) (line_steps ok (first_number rs) bytes) in
    let x = ends whole h in
    let c = chained (row_step (count counts) bytes rs) (line_steps ok (first_number rs) bytes) x.wrote x.rest x.is in
    let r = row_done (count counts) bytes rs c.a c.mid c.first in
    let n : ℕ = (get_or rs 0 d).number in
    let f = first-is rs d r.some in
    let is : line_steps ok n bytes us ≡ done c.b x.rest = ap (λ k. line_steps ok k bytes us) f ∙ ap (line_steps ok (first_number rs) bytes) (u ∙ sym r.tail) ∙ c.next in
    let t = lines-tail ok n bytes us c.b x.rest is in
    let low = ltb-true n (10 ^ 2) (and_parts (ltb n (10 ^ 2)) (counts n) (r.suited d)).0 in
    let some = r.some in
    let long = ap length u ∙ length-drop 1 rs in
    let left = ap length t.0.is ∙ length-drop n us in
    let within = t.0.within in
    let wa = r.wide in
    let wb = t.1 in
    let sum = ap length (sym c.whole) ∙ length-append c.a c.b in
    let p : 2 + 35 * n ≡ length x.wrote = omega arith in
    let v : 1 + n ≡ length rs - length x.rest = omega arith in
    record {
      few = omega arith;
      lines = ap is_done is;
      wide = ap (λ y. length (bytes_of y)) is ∙ t.1;
      text = ap bytes_of x.is ∙ sym c.whole ∙ ap (λ y. y ++ c.b) (sym (r.wrote d)) ∙ ap (λ y. digits 2 n ++ y) (sym (ap bytes_of is));
      size = ap (λ y. record { bytes = y; rows = 1 + n }) p ∙ ap (λ y. record { bytes = length x.wrote; rows = y }) v ∙ sym (ap (size_of (length rs)) x.is);
    }

-- one field more
module _ (l : List Field) (bytes : List ℕ) (rs : List ValueRow) (old out : List ℕ) (i u p : ℕ) (left : List Field) where
  abbrev pub FieldsSofar : Type 0
  FieldsSofar = Sofar (field_steps 1 l bytes rs) old out p (field_steps i left bytes (drop u rs))

  module _ (f : Field) (others : List Field) (x : Shape) (us : List ValueRow) (e : left ≡ f ∷ others) (is : x ≡ shape f) (v : us ≡ drop u rs) (h : is_done (field_steps 1 l bytes rs) ≡ true) (s : FieldsSofar) where
    at_field : Sofar (field_steps 1 l bytes rs) old out p (chain (placed i (field_step x bytes us)) (field_steps (i + 1) others bytes))
    at_field =
        let a = subst (λ fs. Sofar (field_steps 1 l bytes rs) old out p (field_steps i fs bytes (drop u rs))) e s in
        let b = subst (λ y. Sofar (field_steps 1 l bytes rs) old out p (chain (placed i (field_step y bytes (drop u rs))) (field_steps (i + 1) others bytes))) (sym is) a in
        subst (λ y. Sofar (field_steps 1 l bytes rs) old out p (chain (placed i (field_step x bytes y)) (field_steps (i + 1) others bytes))) (sym v) b

    the_field : Next (field_steps 1 l bytes rs) (take p out) (placed i (field_step x bytes us)) (field_steps (i + 1) others bytes)
    the_field = next (field_steps 1 l bytes rs) (take p out) (placed i (field_step x bytes us)) (field_steps (i + 1) others bytes) h at_field.front

    its-step : field_step x bytes us ≡ done the_field.wrote the_field.rest
    its-step = placed-done i (field_step x bytes us) the_field.wrote the_field.rest the_field.is

    pub field_room : length (bytes_of (field_steps 1 l bytes rs)) ≤ length old → p + length (bytes_of (field_step x bytes us)) ≤ length out
    field_room r =
        let n = the_field.room in
        let w = ap (λ y. length (bytes_of y)) its-step in
        let within = s.within in
        let same = s.same in
        let t = length-take p out in
        omega arith

    pub field_put : (new last : List ℕ) (z : Size) → length (bytes_of (field_steps 1 l bytes rs)) ≤ length old → u ≤ length rs → last ≡ in_front (bytes_of (field_step x bytes us)) (take (length out - p) (drop p out)) → z ≡ size_of (length us) (field_step x bytes us) → new ≡ put_mid p (length out - p) out last → (p + z.bytes ≤ length old) × (u + z.rows ≤ length rs) × Sofar (field_steps 1 l bytes rs) old new (p + z.bytes) (field_steps (i + 1) others bytes (drop (u + z.rows) rs))
    field_put new last z r ur put size made =
        let n = the_field in
        let st = its-step in
        let zb : z.bytes ≡ length n.wrote = ap (λ y. y.bytes) size ∙ ap (λ y. (size_of (length us) y).bytes) st in
        let t = field-tail x bytes us n.wrote n.rest st in
        let zr : z.rows ≡ t.0 = ap (λ y. y.rows) size ∙ ap (λ y. (size_of (length us) y).rows) st ∙ tail-size us n.rest t.0 t.1 in
        let room = n.room in
        let within = s.within in
        let same = s.same in
        let tk = length-take p out in
        let fits : p + length n.wrote ≤ length out = omega arith in
        let as' : last ≡ in_front n.wrote (take (length out - p) (drop p out)) = put ∙ ap (λ y. in_front (bytes_of y) (take (length out - p) (drop p out))) st in
        let m = sofar-more (field_steps 1 l bytes rs) old out new p (placed i (field_step x bytes us)) (field_steps (i + 1) others bytes) n at_field fits (made ∙ put_rest p out n.wrote fits last as') in
        let long = ap length v ∙ length-drop u rs in
        let wt = t.1.within in
        let to : n.rest ≡ drop (u + z.rows) rs = t.1.is ∙ ap (λ y. drop y us) (sym zr) ∙ ap (drop z.rows) v ∙ drop-drop z.rows u rs in (
          omega arith,
          omega arith,
          subst (λ y. Sofar (field_steps 1 l bytes rs) old new y (field_steps (i + 1) others bytes (drop (u + z.rows) rs))) (ap (λ y. p + y) (sym zb))
              (subst (λ y. Sofar (field_steps 1 l bytes rs) old new (p + length n.wrote) (field_steps (i + 1) others bytes y)) to m),
        )
