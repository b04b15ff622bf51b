-- Parts that are taken off one by one.
use Rattle.std.proofs.Common.{◌≡◌, refl, sym, ◌∙◌, ap, ℕ, suc, ◌+◌, arith, Bool, true, false, cond, List, [], ◌∷◌, ◌++◌, append-nil, append_assoc, length, Some, None, nat_lt}
use Rattle.std.specs.List.{prefix_len}
use Rattle.jr_codes.specs.Waiting.{front, behind, top_before, TakesBefore, TakesFront}

front_one : {T : Type 0} → (end row : ℕ) (part : T) (old new : List (ℕ × T)) → nat_lt row end ≡ true → old ≡ (row, part) ∷ new → front end old ≡ part ∷ front end new
front_one end row part old new lt is = ap (front end) is ∙ ap (λ b. cond b (part ∷ front end new) []) lt

behind_one : {T : Type 0} → (end row : ℕ) (part : T) (old new : List (ℕ × T)) → nat_lt row end ≡ true → old ≡ (row, part) ∷ new → behind end old ≡ behind end new
behind_one end row part old new lt is = ap (behind end) is ∙ ap (λ b. cond b (behind end new) ((row, part) ∷ new)) lt

pub front_none : {T : Type 0} → (end : ℕ) (old : List (ℕ × T)) → top_before end old ≡ false → front end old ≡ []
front_none end [] h = refl
front_none end (part ∷ all) h = ap (λ b. cond b (part.1 ∷ front end all) []) h

pub behind_none : {T : Type 0} → (end : ℕ) (old : List (ℕ × T)) → top_before end old ≡ false → behind end old ≡ old
behind_none end [] h = refl
behind_none end (part ∷ all) h = ap (λ b. cond b (behind end all) (part ∷ all)) h

-- so far these are taken, of what was there first
pub record TakenSo {T : Type 0} (end : ℕ) (first now : List (ℕ × T)) (all : List T) : Type 0 where
  pub taken : all ++ front end now ≡ front end first
  pub left : behind end now ≡ behind end first

pub taken_more : {T : Type 0} → (end : ℕ) (first old new : List (ℕ × T)) (all : List T) (part : T) → TakenSo end first old all → TakesBefore end old new (Some part) → TakenSo end first new (all ++ part ∷ [])
taken_more end first old new all part so one = record {
  taken = append_assoc all (part ∷ []) (front end new) ∙ ap (λ xs. all ++ xs) (sym (front_one end one.0 part old new one.1 one.2)) ∙ so.taken;
  left = sym (behind_one end one.0 part old new one.1 one.2) ∙ so.left;
}

pub taken_all : {T : Type 0} → (end : ℕ) (first old new : List (ℕ × T)) (all : List T) → TakenSo end first old all → TakesBefore end old new None → TakesFront end first new all
taken_all end first old new all so last = record {
  taken = sym (append-nil all) ∙ ap (λ xs. all ++ xs) (sym (front_none end old last.0)) ∙ so.taken;
  left = last.1 ∙ sym (behind_none end old last.0) ∙ so.left;
}

-- ---- parts that are counted

one_more : (k m : ℕ) → k ≡ m → 1 + k ≡ suc m
one_more k m same = omega (arith, same)

count_by : {T : Type 0} → (b : Bool) (part : T) (more : List T) (k : ℕ) → k ≡ length more → cond b (1 + k) 0 ≡ length (cond b (part ∷ more) [])
count_by true part more k same = one_more k (length more) same
count_by false part more k same = refl

pub front_count : {T : Type 0} → (end : ℕ) (all : List (ℕ × T)) → prefix_len (λ part. nat_lt part.0 end) all ≡ length (front end all)
front_count end [] = refl
front_count end (part ∷ all) = count_by (nat_lt part.0 end) part.1 (front end all) (prefix_len (λ part. nat_lt part.0 end) all) (front_count end all)
