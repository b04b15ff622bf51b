-- The old sides of a journal's entries.
use Rattle.std.proofs.Common.{◌≡◌, ℕ, suc, List, [], ◌∷◌, ◌++◌, ◌≤◌, length, Some, None, refl, ap, subst, sym, ◌∙◌, arith}
use Rattle.std.proofs.lemmas.List.{map_push}
use Rattle.std.specs.Prelude.{Option, IsSome, IsTrue}
use Rattle.std.specs.List.{AllByRecursion}
use Rattle.jr_base.specs.Paths.{is_java}
use Rattle.jr_commit.specs.SidesAt.{SideAt, paths_of}
use Rattle.jr_commit.specs.Entries.{PlainEntry, names_of, plain, plain_of}
use Rattle.jr_commit.specs.declared.entry.Entry.{Entry}
use Rattle.jr_commit.specs.declared.entry.Version.{Version}
use Rattle.jr_commit.specs.declared.entry.Version.TheVariants.{One, Two}
use Rattle.jr_commit.specs.Journal.{IsShaped, IsChange, PutsBack, old_sides, most_bytes}

java_olds : (es : List PlainEntry) → AllByRecursion IsChange es → AllByRecursion (λ p. IsTrue (is_java p)) (paths_of (old_sides es))
java_olds [] changes = tt
java_olds ((path, None, new) ∷ es) changes = java_olds es changes.1
java_olds ((path, Some old, new) ∷ es) changes = (changes.0.java, java_olds es changes.1)

-- each path of a journal ends in `.java`
pub java_of : (bytes : List ℕ) (olds : List SideAt) → PutsBack bytes olds → AllByRecursion (λ p. IsTrue (is_java p)) (paths_of olds)
java_of bytes olds is = subst (λ (l : List SideAt). AllByRecursion (λ p. IsTrue (is_java p)) (paths_of l)) (sym is.sides) (java_olds is.entries is.journal.changes)

-- each entry has an old side
pub names_olds : (v : Version) (es : List PlainEntry) → AllByRecursion (IsShaped v) es → paths_of (old_sides es) ≡ names_of es
names_olds v [] shaped = refl
names_olds v ((path, None, new) ∷ es) shaped = let old : IsSome {T = Option (List ℕ)} None = shaped.0.old in absurd cc
names_olds v ((path, Some old, new) ∷ es) shaped = ap (λ (l : List (List ℕ)). path ∷ l) (names_olds v es shaped.1)

-- and only one
pub length_olds : (v : Version) (es : List PlainEntry) → AllByRecursion (IsShaped v) es → length (old_sides es) ≡ length es
length_olds v [] shaped = refl
length_olds v ((path, None, new) ∷ es) shaped = let old : IsSome {T = Option (List ℕ)} None = shaped.0.old in absurd cc
length_olds v ((path, Some old, new) ∷ es) shaped = ap suc (length_olds v es shaped.1)

most_at_most : (v : Version) → most_bytes v ≤ 50331648
most_at_most One = omega arith
most_at_most Two = omega arith

pub short_of : (bytes : List ℕ) (olds : List SideAt) → PutsBack bytes olds → length bytes ≤ 50331648
short_of bytes olds is = omega (arith, is.journal.short, most_at_most is.version)

olds-append : (es : List PlainEntry) (e : PlainEntry) → old_sides (es ++ e ∷ []) ≡ old_sides es ++ old_sides (e ∷ [])
olds-append [] e = refl
olds-append ((path, None, new) ∷ es) e = olds-append es e
olds-append ((path, Some old, new) ∷ es) e = ap (λ (l : List SideAt). (path, old) ∷ l) (olds-append es e)

pub olds_push : (es : List Entry) (e : Entry) → old_sides (plain (es ++ e ∷ [])) ≡ old_sides (plain es) ++ old_sides (plain_of e ∷ [])
olds_push es e = ap old_sides (map_push plain_of es e) ∙ olds-append (plain es) (plain_of e)
