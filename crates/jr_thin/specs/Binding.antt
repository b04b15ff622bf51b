-- What each name refers to, found from the left to the right with the last declaration of each spelling.
use Rattle.std.specs.Prelude.{◌≡◌, ◌≢◌, ℕ, ◌<◌, ◌≤◌, List, length, Option, Some, None, slice_index_or}
use Rattle.std.specs.BTreeMap.{BTreeMap, get_by}
use Rattle.std.specs.Cmp.Lexicographic.{slice_cmp}
use Rattle.std.specs.Ordering.{nat_cmp}
use denote.Ref.{Bor}
use Rattle.jr_thin.specs.declared.sites.Site.{Site}
use Rattle.jr_thin.specs.declared.sites.Role.TheVariants.{Plain}
use Rattle.jr_thin.specs.Sites.{site_at}
use Rattle.jr_thin.specs.Scopes.{is_declaration, IsTarget, IsBinding, KeepsRule, Redeclares}

-- the methods come one after another
abbrev pub MethodsRise : List Site → Type 0
MethodsRise sites = (j k : ℕ) → j ≤ k → k < length sites → (site_at sites j).role ≢ Plain → (site_at sites k).role ≢ Plain → (site_at sites j).method ≤ (site_at sites k).method

-- a declaration of the spelling before a place
pub record IsEarlier (sites : List Site) (text : List ℕ) (end d : ℕ) : Type 0 where
  pub declared : is_declaration (site_at sites d).role
  pub spelling : (site_at sites d).text ≡ text
  pub before : d < end

-- the last declaration of the spelling before a place
abbrev pub IsLast : List Site → List ℕ → ℕ → Option ℕ → Type 0
IsLast sites text end None = (e : ℕ) → IsEarlier sites text end e → ⊥
IsLast sites text end (Some d) = IsEarlier sites text end d × ((e : ℕ) → IsEarlier sites text end e → e ≤ d)

-- a declaration of the name's spelling in its method before it
pub record IsEarlierHere (sites : List Site) (i d : ℕ) : Type 0 where
  pub earlier : IsEarlier sites (site_at sites i).text i d
  pub method : (site_at sites d).method ≡ (site_at sites i).method

-- the declaration of the name's spelling in its method before it
abbrev pub IsFoundHere : List Site → ℕ → Option ℕ → Type 0
IsFoundHere sites i None = (site_at sites i).role ≢ Plain → (d : ℕ) → IsEarlierHere sites i d → ⊥
IsFoundHere sites i (Some d) = IsEarlierHere sites i d

-- what a table of declarations has for a spelling
abbrev pub last_of : BTreeMap (Bor (List ℕ)) ℕ → List ℕ → Option ℕ
last_of declared text = get_by (λ k. slice_cmp nat_cmp text k.now) declared

-- the rule is kept before a place
abbrev pub KeepsRuleBelow : List Site → ℕ → Type 0
KeepsRuleBelow sites end = (e d : ℕ) → d < end → Redeclares sites e d → ⊥

-- what each token before a place refers to
abbrev pub AreTargets : List Site → List (Option ℕ) → ℕ → Type 0
AreTargets sites targets end = (i : ℕ) → i < end → IsTarget sites i (slice_index_or targets i None)

-- the name refers to nothing, or is declared again
abbrev pub IsStuck : List Site → ℕ → Type 0
IsStuck sites i = (target : Option ℕ) → IsTarget sites i target → KeepsRule sites → ⊥

-- not all names bind, or the rule is broken
abbrev pub IsUnbound : List Site → Type 0
IsUnbound sites = (targets : List (Option ℕ)) → IsBinding sites targets → KeepsRule sites → ⊥
