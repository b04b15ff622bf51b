-- Siblings one after the other.
use Rattle.std.proofs.Common.{◌≡◌, ℕ, zero, suc, ◌+◌, ◌-◌, ◌<◌, ◌≤◌, Bool, true, false, if◌then◌else◌, List, [], ◌∷◌, ◌++◌, map, filter, ◌||◌, nat_lt, refl, sym, ◌∙◌, ap, arith, append_assoc, append-nil}
use Rattle.std.specs.List.{list_any}
use Rattle.std.proofs.lemmas.Bool.{lt-ltb, ltb-true, false≢true}
use Rattle.jr_tree.specs.Rows.{Rows, end}
use Rattle.jr_flow_defs.specs.Acts.{Act, part, event, siblings, last_or}
use Rattle.jr_flow.specs.Seen.{stored, such, only, part_if}

pub siblings_by : (p : Rows) (room k stop : ℕ) (b : Bool) → nat_lt k stop ≡ b → siblings p (suc room) k stop ≡ (if b then k ∷ siblings p room (end p k) stop else [])
siblings_by p room k stop b e = ap (λ t. if t then k ∷ siblings p room (end p k) stop else []) e

pub room_left : (room turn : ℕ) → turn < room → room - turn ≡ suc (room - (turn + 1))
room_left room turn lt = omega arith

pub next : (p : Rows) (room turn k stop : ℕ) → turn < room → k < stop → siblings p (room - turn) k stop ≡ k ∷ siblings p (room - (turn + 1)) (end p k) stop
next p room turn k stop lt before = ap (λ r. siblings p r k stop) (room_left room turn lt) ∙ siblings_by p (room - (turn + 1)) k stop true (lt-ltb k stop before)

not_before : (k stop : ℕ) → stop ≤ k → nat_lt k stop ≡ false
not_before k stop le = grind arith

pub past : (p : Rows) (room k stop : ℕ) → stop ≤ k → siblings p room k stop ≡ []
past p zero k stop le = refl
past p (suc room) k stop le = siblings_by p room k stop false (not_before k stop le)

pub none : (p : Rows) (room turn k stop : ℕ) → room ≤ turn → siblings p (room - turn) k stop ≡ []
none p room turn k stop le = let e : room - turn ≡ 0 = omega arith in ap (λ r. siblings p r k stop) e

-- ---- what is written so far and what follows

pub more_written : {A : Type 0} (start old new : List A) (a : A) (rest all : List A) → new ≡ old ++ a ∷ [] → old ++ a ∷ rest ≡ all → new ++ rest ≡ all
more_written start old new a rest all e h = ap (λ xs. xs ++ rest) e ∙ append_assoc old (a ∷ []) rest ∙ h

pub part_written : (p : Rows) (old new all : List Act) (room turn k stop behind : ℕ) → turn < room → k < stop → behind ≡ end p k → new ≡ old ++ part k ∷ []
    → old ++ map part (siblings p (room - turn) k stop) ≡ all → new ++ map part (siblings p (room - (turn + 1)) behind stop) ≡ all
part_written p old new all room turn k stop behind lt before ends e h = rw ends (more_written [] old new (part k) (map part (siblings p (room - (turn + 1)) (end p k) stop)) all e
    (ap (λ xs. old ++ map part xs) (sym (next p room turn k stop lt before)) ∙ h))

pub item_written : (p : Rows) (old middle new all : List Act) (room turn k stop behind : ℕ) → turn < room → k < stop → behind ≡ end p k → middle ≡ old ++ part k ∷ [] → new ≡ middle ++ event k ∷ []
    → old ++ stored (siblings p (room - turn) k stop) ≡ all → new ++ stored (siblings p (room - (turn + 1)) behind stop) ≡ all
item_written p old middle new all room turn k stop behind lt before ends e f h = rw ends (more_written [] middle new (event k) (stored (siblings p (room - (turn + 1)) (end p k) stop)) all f
    (more_written [] old middle (part k) (event k ∷ stored (siblings p (room - (turn + 1)) (end p k) stop)) all e
    (ap (λ xs. old ++ stored xs) (sym (next p room turn k stop lt before)) ∙ h)))

-- ---- some of them

pub only_by : (p : Rows) (flag : Bool) (k : ℕ) (rest : List ℕ) (b : Bool) → such p flag k ≡ b → map part (only p flag (k ∷ rest)) ≡ part_if b k ++ map part (only p flag rest)
only_by p flag k rest true e = rw e refl
only_by p flag k rest false e = rw e refl

pub such_written : (p : Rows) (flag : Bool) (old new all : List Act) (room turn k stop behind : ℕ) (is_such : Bool) → turn < room → k < stop → behind ≡ end p k → is_such ≡ such p flag k → new ≡ old ++ part_if is_such k
    → old ++ map part (only p flag (siblings p (room - turn) k stop)) ≡ all → new ++ map part (only p flag (siblings p (room - (turn + 1)) behind stop)) ≡ all
such_written p flag old new all room turn k stop behind is_such lt before ends such_is e h = let rest = siblings p (room - (turn + 1)) (end p k) stop in
    rw ends (ap (λ xs. xs ++ map part (only p flag rest)) e ∙ append_assoc old (part_if is_such k) (map part (only p flag rest))
    ∙ ap (λ xs. old ++ xs) (sym (only_by p flag k rest is_such (sym such_is))) ∙ ap (λ xs. old ++ map part (only p flag xs)) (sym (next p room turn k stop lt before)) ∙ h)

-- ---- the last of them, and whether one passes a test

pub last_next : (p : Rows) (o last room turn k stop behind : ℕ) → turn < room → k < stop → behind ≡ end p k → last_or last (siblings p (room - turn) k stop) ≡ o → last_or k (siblings p (room - (turn + 1)) behind stop) ≡ o
last_next p o last room turn k stop behind lt before ends h = rw ends (ap (last_or last) (sym (next p room turn k stop lt before)) ∙ h)

pub last_past : (p : Rows) (o last room k stop : ℕ) → stop ≤ k → last_or last (siblings p room k stop) ≡ o → last ≡ o
last_past p o last room k stop le h = ap (last_or last) (sym (past p room k stop le)) ∙ h

pub last_none : (p : Rows) (o last room turn k stop : ℕ) → room ≤ turn → last_or last (siblings p (room - turn) k stop) ≡ o → last ≡ o
last_none p o last room turn k stop le h = ap (last_or last) (sym (none p room turn k stop le)) ∙ h

any_by : (test : ℕ → Bool) (k : ℕ) (rest : List ℕ) (b : Bool) → test k ≡ b → list_any test (k ∷ rest) ≡ b || list_any test rest
any_by test k rest b e = ap (λ t. t || list_any test rest) e

pub any_next : (p : Rows) (test : ℕ → Bool) (o : Bool) (room turn k stop behind : ℕ) → turn < room → k < stop → behind ≡ end p k → test k ≡ false
    → list_any test (siblings p (room - turn) k stop) ≡ o → list_any test (siblings p (room - (turn + 1)) behind stop) ≡ o
any_next p test o room turn k stop behind lt before ends fails h = let rest = siblings p (room - (turn + 1)) (end p k) stop in
    rw ends (sym (any_by test k rest false fails) ∙ ap (list_any test) (sym (next p room turn k stop lt before)) ∙ h)

pub any_found : (p : Rows) (test : ℕ → Bool) (o : Bool) (room turn k stop : ℕ) → turn < room → k < stop → test k ≡ true → list_any test (siblings p (room - turn) k stop) ≡ o → true ≡ o
any_found p test o room turn k stop lt before passes h = sym (any_by test k (siblings p (room - (turn + 1)) (end p k) stop) true passes) ∙ ap (list_any test) (sym (next p room turn k stop lt before)) ∙ h

pub any_past : (p : Rows) (test : ℕ → Bool) (o : Bool) (room k stop : ℕ) → stop ≤ k → list_any test (siblings p room k stop) ≡ o → false ≡ o
any_past p test o room k stop le h = ap (list_any test) (sym (past p room k stop le)) ∙ h

pub any_none : (p : Rows) (test : ℕ → Bool) (o : Bool) (room turn k stop : ℕ) → room ≤ turn → list_any test (siblings p (room - turn) k stop) ≡ o → false ≡ o
any_none p test o room turn k stop le h = ap (list_any test) (sym (none p room turn k stop le)) ∙ h
