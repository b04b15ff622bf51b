-- What applying edits writes.
use Rattle.std.proofs.Common.{◌≡◌, ℕ, ◌+◌, ◌<◌, List, ◌∷◌, ◌++◌, length, get_or, drop, sym, ap, ◌∙◌, subst, add-one, drop-cons, append_assoc}
use Rattle.std.specs.Prelude.{slice_range}
use Rattle.jr_edits.specs.declared.edit.Edit.{Edit}
use Rattle.jr_edits.specs.Place.{AreApart, edited}

-- how far the writing has come: what is left to write follows what is written
pub record Writes (bytes : List ℕ) (all rest : List Edit) (at : ℕ) (new : List ℕ) : Type 0 where
  pub apart : AreApart at (length bytes) rest
  pub kept : new ++ edited bytes at rest ≡ edited bytes 0 all

pub next_edit : (es : List Edit) (i : ℕ) (e : Edit) → i < length es → e ≡ get_or es i e → drop i es ≡ e ∷ drop (i + 1) es
next_edit es i e low is =
    let d : drop i es ≡ get_or es i e ∷ drop (i + 1) es = rw add-one (drop-cons es i e low) in
    d ∙ ap (λ (x : Edit). x ∷ drop (i + 1) es) (sym is)

pub on_edit : (bytes : List ℕ) (all : List Edit) (i : ℕ) (e : Edit) (at : ℕ) (new : List ℕ) → i < length all → e ≡ get_or all i e
    → Writes bytes all (drop i all) at new → Writes bytes all (e ∷ drop (i + 1) all) at new
on_edit bytes all i e at new low is writes = subst (λ (rest : List Edit). Writes bytes all rest at new) (next_edit all i e low is) writes

pub writes_on : (bytes : List ℕ) (all rest : List Edit) (e : Edit) (at : ℕ) (new : List ℕ) → Writes bytes all (e ∷ rest) at new
    → Writes bytes all rest e.span.end ((new ++ slice_range bytes at e.span.start) ++ e.text)
writes_on bytes all rest e at new writes = record {
  apart = writes.apart.2;
  kept = rw (append_assoc, append_assoc) writes.kept;
}
