-- A table that agrees with lookup refers to variables by names and fields alone, and where headers are settled no two types are above each other.
use Rattle.std.proofs.Common.{le_of_eq, ◌≡◌, ◌⊎◌, refl, sym, subst, inl, inr, ⊎_elim, ℕ, true, false, List, Option}
use Rattle.jr_base.specs.declared.text.Text.{Text}
use Rattle.jr_tree.specs.declared.label.Label.{Label}
use Rattle.jr_tree.specs.declared.label.Label.TheVariants as is
use Rattle.jr_tree.specs.declared.label.NameKind.TheVariants as kind
use Rattle.jr_tree.specs.declared.label.ReceiverKind.TheVariants as on
use Rattle.jr_tree.specs.declared.label.Role.{Role}
use Rattle.jr_tree.specs.declared.label.Role.TheVariants as role
use Rattle.jr_tree.specs.declared.label.Sought.{Sought}
use Rattle.jr_tree.specs.declared.label.Sought.TheVariants as sought
use Rattle.jr_tree.specs.Labels.{sought_by}
use Rattle.jr_tree.specs.Rows.{Rows, label, role_at}
use Rattle.jr_defs.specs.declared.referent.RowType.{RowType}
use Rattle.jr_defs.specs.declared.referent.Referent.{Referent}
use Rattle.jr_defs.specs.declared.referent.Referent.TheVariants.{ArrayLength, Declared}
use Rattle.jr_defs.specs.declared.referent.Space.TheVariants as space
use Rattle.jr_defs.specs.Referents.{Table, IsAnswer}
use Rattle.jr_defs.specs.Declarations.{IsOf, Declares, IsType, IsObject, IsString, IsVariable}
use Rattle.jr_defs.specs.Supertypes.{SuperAt, Above}
use Rattle.jr_defs.specs.Headers.{NamesHeader, NameMeets, Meets, IsSettled}
use Rattle.jr_defs.specs.Formed.{IsFormed}
use Rattle.jr_defs.specs.Overloads.{Applicable, IsPreferred, IsLeftOf, ImportedChoice}
use Rattle.jr_defs.specs.Lookup.{MethodCandidate, Candidate, MayBeLength, Otherwise, Look}
use Rattle.jr_plain.specs.Search.{Reaches}
use Rattle.jr_plain.specs.Headed.{IsHeaded}
use Rattle.jr_plain.specs.Typing.{IsVariableLabel, IsTypable}

-- what looks for a variable, or may
abbrev MayBeVariable : Sought → Type 0
MayBeVariable (sought.Simple k) = Unit {0}
MayBeVariable (sought.Qualified k) = Unit {0}
MayBeVariable sought.FieldOf = Unit {0}
MayBeVariable sought.SuperField = Unit {0}
MayBeVariable _ = ⊥

seeks_label : (l : Label) → MayBeVariable (sought_by l) → IsVariableLabel l
seeks_label (is.Name k at b) h = tt
seeks_label is.Select h = tt
seeks_label is.SuperSelect h = tt
seeks_label (is.Call on.Absent) h = absurd h
seeks_label (is.Call on.Expression) h = absurd h
seeks_label (is.Call on.Name) h = absurd h
seeks_label (is.Call on.Super) h = absurd h
seeks_label (is.Break true) h = absurd h
seeks_label (is.Break false) h = absurd h
seeks_label (is.Continue true) h = absurd h
seeks_label (is.Continue false) h = absurd h
seeks_label _ h = absurd h

method_apart : (r : Role) → IsOf space.Method r → IsOf space.Variable r → ⊥
method_apart role.Method m v = v
method_apart _ m v = m

label_apart : (r : Role) → IsOf space.Label r → IsOf space.Variable r → ⊥
label_apart role.Label m v = v
label_apart _ m v = m

module _ (p : Rows) (t : Table) where
  preferred_in : {c m : ℕ} {M : ℕ → Type 0} → IsPreferred p t c M m → M m
  preferred_in (IsPreferred.concrete h a) = h
  preferred_in (IsPreferred.returning a f) = f.candidate.candidate
  preferred_in (IsPreferred.first a n f) = f.candidate

  left_in : {c o m : ℕ} {receiver : Option RowType} {arguments : List RowType} {S : ℕ → Type 0} → IsLeftOf p t c (Applicable p t o receiver arguments S) m → S m
  left_in (IsLeftOf.chosen h) = (preferred_in h).applicable.candidate
  left_in (IsLeftOf.undecided n h) = h.candidate

  imported_in : {o m : ℕ} {arguments : List RowType} {S : ℕ → Type 0} → ImportedChoice p t o arguments S m → S m
  imported_in (ImportedChoice.chosen h) = h.applicable.candidate
  imported_in (ImportedChoice.undecided n h) = h.candidate

  method_in : {x : Text} {o d : ℕ} {arguments : List RowType} {level : Option ℕ} → MethodCandidate p t x o arguments d level → Declares p space.Method x d
  method_in (MethodCandidate.member l h) = (left_in h).declares
  method_in (MethodCandidate.imported n h) = (imported_in h).declares

  module _ (K : ℕ → Type 0) where
    candidate_seeks : {o d : ℕ} {x : Text} {s : Sought} {level : Option ℕ} → Candidate p t K o x s d level → IsVariable p d → MayBeVariable s
    candidate_seeks (Candidate.simple h) v = tt
    candidate_seeks (Candidate.qualified h) v = tt
    candidate_seeks (Candidate.field h) v = tt
    candidate_seeks (Candidate.super_field s h) v = tt
    candidate_seeks (Candidate.method {d = d} a h) v = method_apart (role_at p d) (method_in h).of_kind v
    candidate_seeks (Candidate.method_of {d = d} r a h) v = method_apart (role_at p d) (left_in h).declares.of_kind v
    candidate_seeks (Candidate.super_method {d = d} s a h) v = method_apart (role_at p d) (left_in h).declares.of_kind v
    candidate_seeks (Candidate.creation c l a h) v = subst (λ r. IsOf space.Variable r) (left_in h).constructor v
    candidate_seeks (Candidate.constructor c a h) v = subst (λ r. IsOf space.Variable r) (left_in h).constructor v
    candidate_seeks (Candidate.own_class b) v = subst (λ r. IsOf space.Variable r) b.type v
    candidate_seeks (Candidate.labeled {d = d} h) v = label_apart (role_at p d) h.declares.of_kind v

    otherwise_apart : {o d : ℕ} {x : Text} {s : Sought} {a : Referent} {level : Option ℕ} → Otherwise p t K o x s a → a ≡ Declared d level → ⊥
    otherwise_apart (Otherwise.package_name h) e = cc
    otherwise_apart (Otherwise.length n h) e = cc
    otherwise_apart (Otherwise.unbound n h) e = cc

    same_row : {d e : ℕ} {l m : Option ℕ} → Declared d l ≡ Declared e m → d ≡ e
    same_row e = cc

    declared_seeks : {o d : ℕ} {x : Text} {s : Sought} {a : Referent} {level : Option ℕ} → IsAnswer (Candidate p t K o x s) (Otherwise p t K o x s) a → a ≡ Declared d level → IsVariable p d → MayBeVariable s
    declared_seeks (IsAnswer.one f l h only) e v = candidate_seeks h (subst (λ x. IsVariable p x) (sym (same_row e)) v)
    declared_seeks (IsAnswer.none never q) e v = absurd (otherwise_apart q e)
    declared_seeks (IsAnswer.several f g l m h k apart) e v = absurd (cc)

    may_be_length : (s : Sought) → MayBeLength s → MayBeVariable s
    may_be_length (sought.Qualified kind.Variable) h = tt
    may_be_length (sought.Qualified kind.Ambiguous) h = tt
    may_be_length sought.FieldOf h = tt
    may_be_length _ h = absurd h

    otherwise_length : {o : ℕ} {x : Text} {s : Sought} {a : Referent} → Otherwise p t K o x s a → a ≡ ArrayLength → MayBeVariable s
    otherwise_length (Otherwise.package_name h) e = absurd (cc)
    otherwise_length {s = s} (Otherwise.length n h) e = may_be_length s h.allowed
    otherwise_length (Otherwise.unbound n h) e = absurd (cc)

    length_seeks : {o : ℕ} {x : Text} {s : Sought} {a : Referent} → IsAnswer (Candidate p t K o x s) (Otherwise p t K o x s) a → a ≡ ArrayLength → MayBeVariable s
    length_seeks (IsAnswer.one f l h only) e = absurd (cc)
    length_seeks (IsAnswer.none never q) e = otherwise_length q e
    length_seeks (IsAnswer.several f g l m h k apart) e = absurd (cc)

    pub typable_from_lookup : IsHeaded p → ((s d : ℕ) → IsString p s → IsString p d → s ≡ d) → ((d s : ℕ) → Above p t d s → Above p t s d → d ≡ s)
        → ((n : ℕ) → Look p t K n (t n)) → IsTypable p t
    typable_from_lookup headed one_string acyclic looked = record {
      headed = headed;
      one_string = one_string;
      variable = λ n d level e v. seeks_label (label p n) (declared_seeks (looked n) e v);
      length_of = λ n e. seeks_label (label p n) (length_seeks (looked n) e);
      acyclic = acyclic;
    }

pub variable_label : (p : Rows) (t : Table) (K : ℕ → Type 0) (o d : ℕ) (a : Referent) (l : Option ℕ) → Look p t K o a → a ≡ Declared d l → IsVariable p d → IsVariableLabel (label p o)
variable_label p t K o d a l h e v = seeks_label (label p o) (declared_seeks p t K h e v)

pub length_label : (p : Rows) (t : Table) (K : ℕ → Type 0) (o : ℕ) (a : Referent) → Look p t K o a → a ≡ ArrayLength → IsVariableLabel (label p o)
length_label p t K o a h e = seeks_label (label p o) (length_seeks p t K h e)

-- ---- where headers are settled no two types are above each other

module _ (p : Rows) (t : Table) where
  join : {a b c : ℕ} → Reaches (λ x z. Meets p t t x z) a b → Meets p t t b c → Reaches (λ x z. Meets p t t x z) a c
  join (Reaches.direct e) f = Reaches.further e (Reaches.direct f)
  join (Reaches.further e more) f = Reaches.further e (join more f)

  -- no settled header leads back
  never_back : (c : ℕ) → IsSettled p t t c → Reaches (λ x z. Meets p t t x z) c c → ⊥
  never_back c (IsSettled.settled out met) (Reaches.direct e) = never_back c (met c e) (Reaches.direct e)
  never_back c (IsSettled.settled out met) (Reaches.further {r = r} e more) = never_back r (met r e) (join more e)

  starts : {a b : ℕ} → IsFormed p → Reaches (λ x z. Meets p t t x z) a b → IsType p a
  starts {a} formed (Reaches.direct e) = formed.header a e.row e.header
  starts {a} formed (Reaches.further e more) = formed.header a e.row e.header

  join_paths : {a b c : ℕ} → Reaches (λ x z. Meets p t t x z) a b → Reaches (λ x z. Meets p t t x z) b c → Reaches (λ x z. Meets p t t x z) a c
  join_paths (Reaches.direct e) q = Reaches.further e q
  join_paths (Reaches.further e more) q = Reaches.further e (join_paths more q)

  module _ (formed : IsFormed p) (types : (c n s : ℕ) (level : Option ℕ) → NamesHeader p c n → t n ≡ Declared s level → IsType p s) where
    meets : {c n s : ℕ} {level : Option ℕ} → NamesHeader p c n → t n ≡ Declared s level → Meets p t t c s
    meets {c} {n} {s} {level} h e = record { row = n; header = h; meets = NameMeets.own (record { from = le_of_eq refl; before = formed.tree.nested n }) e (types c n s level h e) }

    -- a supertype is named, or is Object, and the type is not
    step : {c n s : ℕ} → SuperAt p t c n s → (Meets p t t c s × (IsObject p c → ⊥)) ⊎ (IsObject p s × (IsObject p c → ⊥))
    step {c} (SuperAt.class {n = n} k e) = inl (meets (inl k) e, λ o. formed.object_bare c n o (inl k))
    step {c} (SuperAt.interface {n = n} k e) = inl (meets (inr k) e, λ o. formed.object_bare c n o (inr k))
    step (SuperAt.implied i o) = inr (o, i.below)

    not_object : {c n s : ℕ} → SuperAt p t c n s → IsObject p c → ⊥
    not_object h o = ⊎_elim (λ k. k.1 o) (λ k. k.1 o) (step h)

    from_object : {c s : ℕ} → Above p t c s → IsObject p c → IsObject p s
    from_object (Above.direct h) o = absurd (not_object h.at o)
    from_object (Above.further h more) o = absurd (not_object h.at o)
    from_object (Above.object i s) o = s

    named_or_object : {c s : ℕ} → Above p t c s → Reaches (λ x z. Meets p t t x z) c s ⊎ IsObject p s
    named_or_object (Above.direct h) = ⊎_elim (λ k. inl (Reaches.direct k.0)) (λ k. inr k.0) (step h.at)
    named_or_object (Above.further h more) = ⊎_elim (λ k. ⊎_elim (λ path. inl (Reaches.further k.0 path)) (λ o. inr o) (named_or_object more)) (λ k. inr (from_object more k.0)) (step h.at)
    named_or_object (Above.object i o) = inr o

    pub acyclic_from_settled : ((o e : ℕ) → IsObject p o → IsObject p e → o ≡ e) → ((c : ℕ) → IsType p c → IsSettled p t t c) → (d s : ℕ) → Above p t d s → Above p t s d → d ≡ s
    acyclic_from_settled one_object settled d s up down = by (named_or_object up) (named_or_object down)
      where
        by : Reaches (λ x z. Meets p t t x z) d s ⊎ IsObject p s → Reaches (λ x z. Meets p t t x z) s d ⊎ IsObject p d → d ≡ s
        by (inr o) _ = one_object d s (from_object down o) o
        by (inl a) (inr o) = one_object d s o (from_object up o)
        by (inl a) (inl b) = absurd (never_back d (settled d (starts formed a)) (join_paths a b))
