-- The whole text with identifiers spelled otherwise, gap by gap and token by token.
use Rattle.std.proofs.Common.{◌≡◌, ℕ, suc, ◌+◌, ◌-◌, ◌<◌, ◌≤◌, List, [], ◌∷◌, ◌++◌, length, take, drop, refl, sym, ◌∙◌, ap, subst, arith, Option, Some, None, length-drop, length-append, append_assoc}
use Rattle.std.specs.Prelude.{slice_range, map, All}
use Rattle.std.specs.Str.{IsUtf8, IsCharBoundary}
use Rattle.std.proofs.Math.Seq.{take-append-add, drop-append_seam}
use Rattle.std.proofs.lemmas.List.{length-take-le, drop_all}
use Rattle.std.proofs.lemmas.List.Folds.{drop_split}
use Rattle.std.proofs.lemmas.Str.{IsUtf8-append, IsUtf8-take, IsUtf8-drop, IsUtf8-nil, IsCharBoundary-start}
use Rattle.jr_base.specs.Gaps.{IsGap}
use Rattle.jr_base.specs.Reading.{Reads, here, gap, token}
use Rattle.jr_base.specs.Respelled.{Choice, IsChoice, new_kind, new_spelling, new_width, respelled, moved_token, moved_tokens, RespelledReads}
use Rattle.jr_base.specs.Tokens.{IsLongest, GapAt, LongestAt}
use Rattle.jr_base.specs.declared.kind.Kind.TheVariants.{Ident}
use Rattle.jr_base.specs.declared.token.Token.{Token}
use Rattle.jr_base.proofs.Words.{word_utf8}
use Rattle.jr_lex.proofs.Classes.{name_word, token_some}
use Rattle.jr_lex.proofs.Readings.{gap_inside, gap_boundary, token_boundary, gap_at, token_at}
use Rattle.jr_lex.proofs.Respelling.{Alike, alike_same, alike_behind, alike_begins, begins_of, gap_kept, longest_kept, longest_renamed}

-- the text from start on, respelled, stands as the old one did, and reads as the moved tokens behind any front
record Claim (bytes : List ℕ) (start : ℕ) (cs : List Choice) : Type 0 where
  alike : Alike (drop start bytes) (respelled bytes start cs)
  utf8 : IsUtf8 (respelled bytes start cs)
  reads : (front : List ℕ) → Reads (front ++ respelled bytes start cs) (length front) (moved_tokens start (length front) cs) (length (front ++ respelled bytes start cs))

-- the first token stands at the place or behind it
abbrev FirstFrom : ℕ → List Choice → Type 0
FirstFrom place [] = Unit {0}
FirstFrom place (c ∷ cs) = place ≤ c.0.span.start

-- a part of a text in two
part_split : (bytes : List ℕ) (a b c : ℕ) → a ≤ b → b ≤ c → b ≤ length bytes → slice_range bytes a c ≡ slice_range bytes a b ++ slice_range bytes b c
part_split bytes a b c l m n =
    let w = slice_range bytes a b in
    let size : length w ≡ b - a = length-take-le (b - a) (drop a bytes) (omega (arith, length-drop a bytes)) in
    let count : c - a ≡ length w + (c - b) = omega arith in
    ap (take (c - a)) (drop_split bytes a b l) ∙ (ap (λ k. take k (w ++ drop b bytes)) count ∙ take-append-add w (drop b bytes) (c - b))

respelled_cut : (bytes : List ℕ) (start end : ℕ) (cs : List Choice) → start ≤ end → end ≤ length bytes → FirstFrom end cs → respelled bytes start cs ≡ slice_range bytes start end ++ respelled bytes end cs
respelled_cut bytes start end [] l m f = drop_split bytes start end l
respelled_cut bytes start end (c ∷ cs) l m f =
    let rest = new_spelling bytes c ++ respelled bytes c.0.span.end cs in
    ap (λ x. x ++ rest) (part_split bytes start end c.0.span.start l f m) ∙ append_assoc (slice_range bytes start end) (slice_range bytes end c.0.span.start) rest

moved_cut : (start end at : ℕ) (cs : List Choice) → start ≤ end → FirstFrom end cs → moved_tokens start at cs ≡ moved_tokens end (at + (end - start)) cs
moved_cut start end at [] l f = refl
moved_cut start end at (c ∷ cs) l f =
    let same : at + (c.0.span.start - start) ≡ at + (end - start) + (c.0.span.start - end) = omega arith in
    ap (λ s. moved_token s c ∷ moved_tokens c.0.span.end (s + new_width c) cs) same

regroup : (front w rest : List ℕ) (P : List ℕ → ℕ → Type 0) → P ((front ++ w) ++ rest) (length (front ++ w)) → P (front ++ (w ++ rest)) (length front + length w)
regroup front w rest P h = subst (λ n. P (front ++ (w ++ rest)) n) (length-append front w) (subst (λ b. P b (length (front ++ w))) (append_assoc front w rest) h)

-- what stands at a place, and what follows it
record Piece (bytes : List ℕ) (start end : ℕ) : Type 0 where
  word : List ℕ
  is : word ≡ slice_range bytes start end
  size : start + length word ≡ end
  split : drop start bytes ≡ word ++ drop end bytes

piece : (bytes : List ℕ) (start end : ℕ) → start ≤ end → end ≤ length bytes → Piece bytes start end
piece bytes start end l m = record {
  word = slice_range bytes start end;
  is = refl;
  size = omega (arith, length-take-le (end - start) (drop start bytes) (omega (arith, length-drop start bytes)));
  split = drop_split bytes start end l;
}

piece_utf8 : (bytes : List ℕ) (start len end : ℕ) → end ≡ start + len → IsUtf8 bytes → IsCharBoundary bytes start → IsCharBoundary (drop start bytes) len → IsUtf8 (slice_range bytes start end)
piece_utf8 bytes start len end e u b c =
    let n : len ≡ end - start = omega arith in
    subst (λ k. IsUtf8 (take k (drop start bytes))) n (IsUtf8-take (drop start bytes) len (IsUtf8-drop bytes start u b) c)

module _ (bytes : List ℕ) (u : IsUtf8 bytes) where
  with_gap : (start end : ℕ) (cs : List Choice) → IsCharBoundary bytes start → GapAt bytes start end → FirstFrom end cs → Claim bytes end cs → Claim bytes start cs
  with_gap start end cs b g f inner =
      let len = g.0 in
      let bounds = gap_inside (drop start bytes) len g.2 in
      let inside : end ≤ length bytes = omega (arith, g.1, bounds, length-drop start bytes, b.0) in
      let p = piece bytes start end (omega (arith, g.1)) inside in
      let w = p.word in
      let rest = respelled bytes end cs in
      let uw : IsUtf8 w = subst IsUtf8 (sym p.is) (piece_utf8 bytes start len end g.1 u b (gap_boundary (drop start bytes) len (IsUtf8-drop bytes start u b) g.2)) in
      let cut : respelled bytes start cs ≡ w ++ rest = respelled_cut bytes start end cs (omega (arith, g.1)) inside f ∙ ap (λ x. x ++ rest) (sym p.is) in
      let wide : len ≡ length w = omega (arith, g.1, p.size) in
      let old : IsGap (w ++ drop end bytes) (length w) = subst (λ n. IsGap (w ++ drop end bytes) n) wide (subst (λ x. IsGap x len) p.split g.2) in
      let new : IsGap (w ++ rest) (length w) = gap_kept w (drop end bytes) rest inner.alike old in
      let joined : Alike (w ++ drop end bytes) (w ++ rest) = alike_behind w (drop end bytes) rest uw inner.alike in
      record {
        alike = subst (λ x. Alike x (respelled bytes start cs)) (sym p.split) (subst (λ y. Alike (w ++ drop end bytes) y) (sym cut) joined);
        utf8 = subst IsUtf8 (sym cut) (IsUtf8-append w rest uw inner.utf8);
        reads = λ front.
            let at = length front in
            let goal : List ℕ → Type 0 = λ x. Reads (front ++ x) at (moved_tokens start at cs) (length (front ++ x)) in
            let moved : moved_tokens end (at + length w) cs ≡ moved_tokens start at cs =
            ap (λ k. moved_tokens end (at + k) cs) (let e : length w ≡ end - start = omega (arith, p.size) in e) ∙ sym (moved_cut start end at cs (omega (arith, g.1)) f) in
            let after : Reads (front ++ (w ++ rest)) (at + length w) (moved_tokens end (at + length w) cs) (length (front ++ (w ++ rest))) =
            regroup front w rest (λ x n. Reads x n (moved_tokens end n cs) (length x)) (inner.reads (front ++ w)) in
            let here_gap : GapAt (front ++ (w ++ rest)) at (at + length w) = (length w, refl, subst (λ x. IsGap x (length w)) (sym (drop-append_seam front (w ++ rest))) new) in
            subst goal (sym cut) (gap here_gap (subst (λ ts. Reads (front ++ (w ++ rest)) (at + length w) ts (length (front ++ (w ++ rest)))) moved after));
      }

  -- a token of its new spelling, before the rest
  made : (start : ℕ) (c : Choice) (cs : List Choice) (v : List ℕ) → c.0.span.start ≡ start → v ≡ new_spelling bytes c → length v ≡ new_width c → IsUtf8 v
      → Alike (drop start bytes) (v ++ respelled bytes c.0.span.end cs) → IsLongest (v ++ respelled bytes c.0.span.end cs) (length v) (new_kind c) → Claim bytes c.0.span.end cs → Claim bytes start (c ∷ cs)
  made start c cs v p is size uv alike longest inner =
      let rest = respelled bytes c.0.span.end cs in
      let none : c.0.span.start - start ≡ 0 = omega arith in
      let cut : respelled bytes start (c ∷ cs) ≡ v ++ rest = ap (λ n. take n (drop start bytes) ++ (new_spelling bytes c ++ rest)) none ∙ ap (λ x. x ++ rest) (sym is) in
      record {
        alike = subst (λ y. Alike (drop start bytes) y) (sym cut) alike;
        utf8 = subst IsUtf8 (sym cut) (IsUtf8-append v rest uv inner.utf8);
        reads = λ front.
            let at = length front in
            let end = c.0.span.end in
            let x = front ++ (v ++ rest) in
            let goal : List ℕ → Type 0 = λ y. Reads (front ++ y) at (moved_tokens start at (c ∷ cs)) (length (front ++ y)) in
            let from : ℕ → Type 0 = λ s. Reads x at (moved_token s c ∷ moved_tokens end (s + new_width c) cs) (length x) in
            let same : at + (c.0.span.start - start) ≡ at = omega arith in
            let after : Reads x (at + length v) (moved_tokens end (at + length v) cs) (length x) =
            regroup front v rest (λ y n. Reads y n (moved_tokens end n cs) (length y)) (inner.reads (front ++ v)) in
            let moved : Reads x (at + new_width c) (moved_tokens end (at + new_width c) cs) (length x) =
            subst (λ n. Reads x (at + n) (moved_tokens end (at + n) cs) (length x)) size after in
            let stands : LongestAt x at (at + new_width c) (new_kind c) =
            (length v, ap (λ n. at + n) (sym size), subst (λ y. IsLongest y (length v) (new_kind c)) (sym (drop-append_seam front (v ++ rest))) longest) in
            let whole : from at = token {t = moved_token at c} refl stands moved in
            subst goal (sym cut) (subst from (sym same) whole);
      }

  with_token : (start : ℕ) (c : Choice) (cs : List Choice) → IsCharBoundary bytes start → c.0.span.start ≡ start → LongestAt bytes start c.0.span.end c.0.kind → IsChoice c → Claim bytes c.0.span.end cs → Claim bytes start (c ∷ cs)
  with_token start (t, o) cs b p g choice inner = by o choice
    where
      end : ℕ
      end = t.span.end

      len : ℕ
      len = g.0

      forward : (start ≤ t.span.end) × (t.span.end ≤ length bytes)
      forward = (omega (arith, g.1), omega (arith, g.1, g.2.stands.inside, length-drop start bytes, b.0))

      p2 : Piece bytes start t.span.end
      p2 = piece bytes start t.span.end forward.0 forward.1

      by : (o : Option (List ℕ)) → IsChoice (t, o) → Claim bytes start ((t, o) ∷ cs)
      by None choice =
          let q = piece bytes start t.span.end forward.0 forward.1 in
          let w = q.word in
          let rest = respelled bytes t.span.end cs in
          let old = drop t.span.end bytes in
          let wide : g.0 ≡ length w = omega (arith, g.1, q.size) in
          let uw : IsUtf8 w = subst IsUtf8 (sym q.is) (piece_utf8 bytes start g.0 t.span.end g.1 u b (token_boundary (drop start bytes) g.0 t.kind (IsUtf8-drop bytes start u b) g.2.stands)) in
          let stood : IsLongest (w ++ old) (length w) t.kind = subst (λ n. IsLongest (w ++ old) n t.kind) wide (subst (λ x. IsLongest x g.0 t.kind) q.split g.2) in
          let some : 0 < length w = omega (arith, token_some (drop start bytes) g.0 t.kind g.2.stands) in
          made start (t, None) cs w p (q.is ∙ ap (λ s. slice_range bytes s t.span.end) (sym p)) (omega (arith, q.size)) uw
          (subst (λ x. Alike x (w ++ rest)) (sym q.split) (alike_behind w old rest uw inner.alike))
          (longest_kept w old rest inner.alike some t.kind stood) inner
      by (Some name) choice =
          let q = piece bytes start t.span.end forward.0 forward.1 in
          let w = q.word in
          let rest = respelled bytes t.span.end cs in
          let old = drop t.span.end bytes in
          let was = choice.0.0 in
          let wide : g.0 ≡ length w = omega (arith, g.1, q.size) in
          let stood : IsLongest (w ++ old) (length w) (Ident was) =
          subst (λ k. IsLongest (w ++ old) (length w) k) choice.0.1 (subst (λ n. IsLongest (w ++ old) n t.kind) wide (subst (λ x. IsLongest x g.0 t.kind) q.split g.2)) in
          let some : 0 < length w = omega (arith, token_some (drop start bytes) g.0 t.kind g.2.stands) in
          let new : IsLongest (name ++ rest) (length name) (Ident name) = longest_renamed w old rest inner.alike some name was choice.1 stood in
          let begun = begins_of (w ++ old) (length w) (name_word (w ++ old) (length w) was stood.stands) in
          let begins = begins_of (name ++ rest) (length name) (name_word (name ++ rest) (length name) name new.stands) in
          made start (t, Some name) cs name p refl refl (word_utf8 name choice.1.word)
          (subst (λ x. Alike x (name ++ rest)) (sym q.split) (alike_begins (w ++ old) (name ++ rest) begun begins))
          new inner

head_is : {t : Token} {ts : List Token} (c : Choice) (cs : List Choice) → map (λ c. c.0) (c ∷ cs) ≡ t ∷ ts → c.0 ≡ t
head_is c cs h = cc

tail_is : {t : Token} {ts : List Token} (c : Choice) (cs : List Choice) → map (λ c. c.0) (c ∷ cs) ≡ t ∷ ts → map (λ c. c.0) cs ≡ ts
tail_is c cs h = cc

first_from : {bytes : List ℕ} {start stop : ℕ} {ts : List Token} → Reads bytes start ts stop → (cs : List Choice) → map (λ c. c.0) cs ≡ ts → FirstFrom start cs
first_from r [] e = tt
first_from here (c ∷ cs) e = absurd (let no : c.0 ∷ map (λ c. c.0) cs ≡ [] = e in cc)
first_from (gap g r) (c ∷ cs) e = omega (arith, g.1, first_from r (c ∷ cs) e)
first_from (token {t = t} p l r) (c ∷ cs) e = let same : c.0.span.start ≡ t.span.start = ap (λ t. t.span.start) (head_is c cs e) in omega arith

claim : {bytes : List ℕ} {start stop : ℕ} {ts : List Token} → IsUtf8 bytes → IsCharBoundary bytes start → Reads bytes start ts stop → stop ≡ length bytes → (cs : List Choice) → map (λ c. c.0) cs ≡ ts → All IsChoice cs → Claim bytes start cs
claim {bytes} u b (here {start = start}) e [] m h =
    let none : drop start bytes ≡ [] = drop_all start bytes (omega arith) in
    record {
      alike = alike_same (drop start bytes);
      utf8 = subst IsUtf8 (sym none) IsUtf8-nil;
      reads = λ front. subst (λ n. Reads (front ++ drop start bytes) (length front) [] n) (let s : length front ≡ length (front ++ drop start bytes) = omega (arith, length-append front (drop start bytes), ap length none) in s) here;
    }
claim u b here e (c ∷ cs) m h = absurd (let no : c.0 ∷ map (λ c. c.0) cs ≡ [] = m in cc)
claim {bytes} u b (gap {start = start} {end = end} g r) e cs m h =
    let next : IsCharBoundary bytes end = subst (λ n. IsCharBoundary bytes n) (sym g.1) (gap_at bytes start g.0 u b g.2) in
    with_gap bytes u start end cs b g (first_from r cs m) (claim u next r e cs m h)
claim u b (token {t = t} {ts = ts} p l r) e [] m h = absurd (let no : [] ≡ t ∷ ts = m in cc)
claim {bytes} u b (token {start = start} {t = t} {ts = ts} p l r) e (c ∷ cs) m h =
    let same : c.0 ≡ t = head_is c cs m in
    let next : IsCharBoundary bytes t.span.end = subst (λ n. IsCharBoundary bytes n) (sym l.1) (token_at bytes start l.0 t.kind u b l.2.stands) in
    let inner : Claim bytes t.span.end cs = claim u next r e cs (tail_is c cs m) (λ k d s. h (suc k) d (omega arith)) in
    with_token bytes u start c cs b (ap (λ t. t.span.start) same ∙ p)
    (subst (λ t. LongestAt bytes start t.span.end t.kind) (sym same) l) (h 0 c (omega arith))
    (subst (λ t. Claim bytes t.span.end cs) (sym same) inner)

pub respelled_reads : RespelledReads
respelled_reads bytes choices lex good =
    let c = claim lex.utf8 (IsCharBoundary-start bytes lex.utf8) lex.reads refl choices refl good in
    record { utf8 = c.utf8; reads = c.reads [] }
