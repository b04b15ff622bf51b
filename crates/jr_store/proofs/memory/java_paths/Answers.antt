use Rattle.std.proofs.Common.{◌≡◌, ◌<◌, ◌++◌, ◌∷◌, [], ◌∙◌, sym, ap, drop, length, arith, ◌+◌, length-append, List, ℕ}
use Rattle.std.specs.Prelude.{Vec}
use Rattle.std.specs.declared.alloc.Global.{Global}
use Rattle.jr_base.specs.Files.{plain}
use Rattle.jr_store.specs.Listing.{java_paths}
use Rattle.jr_store.proofs.Listing.{step_taken, step_left}
use Rattle.jr_store.proofs.memory.java_paths.Goals as goal
use Rattle.jr_store.proofs.memory.java_paths.Goals.{then-is_java+else-len-most+in_ok-copy+in_ok-push, else-is_java}

pub loop-entry-preserved : goal.loop-entry-preserved
loop-entry-preserved c =
    let files = c.args.entries.now in
    let i = c.loop-entry.entry-index in
    let inside : i < length files = omega arith in
    elim c.if-is_java.branch [
      | then-is_java+else-len-most+in_ok-copy+in_ok-push w ↦
          let pushed : c.if-is_java.paths.items ≡ c.loop-entry.paths.items ++ c.entry-item.result.0 ∷ [] =
          ap (λ (v : Vec (List ℕ) Global). v.items) w.paths-is ∙ w.in_ok-push.ensures.items ∙ ap (λ (p : List ℕ). c.loop-entry.paths.items ++ p ∷ []) w.in_ok-copy.ensures in
          record {
            same = ap (λ (ps : List (List ℕ)). ps ++ java_paths (drop (i + 1) (plain files))) pushed
                ∙ step_taken files i c.entry-item.result inside c.entry-item.is c.loop-entry.paths.items c.loop-entry.invariant.same (sym c.is_java.ensures ∙ w.if-is_java.true);
            few = omega (arith, ap length pushed, length-append c.loop-entry.paths.items (c.entry-item.result.0 ∷ []), w.len.ensures);
          }
      | else-is_java w ↦ record {
        same = ap (λ (v : Vec (List ℕ) Global). v.items ++ java_paths (drop (i + 1) (plain files))) w.paths-is
            ∙ step_left files i c.entry-item.result inside c.entry-item.is c.loop-entry.paths.items c.loop-entry.invariant.same (sym c.is_java.ensures ∙ w.if-is_java.false);
        few = omega (arith, ap (λ (v : Vec (List ℕ) Global). length v.items) w.paths-is);
      }
    ]
