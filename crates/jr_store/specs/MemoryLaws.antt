-- The laws of the trait for a store in memory.
use Rattle.std.proofs.Common.{◌≡◌, ℕ, ◌≤◌, List, length, take, sym, ap, subst, arith}
use Rattle.std.proofs.lemmas.List.{take_all}
use Rattle.std.specs.Prelude.{Some}
use Rattle.std.proofs.lemmas.Option.{same_Some}
use Rattle.jr_base.specs.Files.{FileMap}
use Rattle.jr_store.specs.Calls.{Call}
use Rattle.jr_store.specs.Image.{Image}
use Rattle.jr_store.specs.Memory.{state_now, files_now, LeftSince}
use Rattle.jr_store.specs.Replay.{IsLeft, state_of}
use Rattle.jr_store.specs.declared.memory.MemStore.{MemStore}

pub all_taken : (files : FileMap) (calls : List Call) (k : ℕ) → length calls ≤ k → state_of files (take k calls) ≡ state_of files calls
all_taken files calls k le = ap (state_of files) (take_all k calls le)

pub memory_reads_now : (m : MemStore) (f : Image) → Some (files_now m) ≡ Some f → IsLeft (state_now m) f
memory_reads_now m f told = λ q none. sym (ap (λ (h : Image). h q) (same_Some (files_now m) f told))

pub memory_counts_now : (m : MemStore) (t : ℕ) (c : Image) → t ≤ length m.kept → IsLeft (state_now m) c → LeftSince m t c
memory_counts_now m t c le left =
    (length m.kept, le, omega arith, subst (λ s. IsLeft s c) (sym (all_taken m.files m.kept (length m.kept) (omega arith))) left)

pub memory_only_now : (m : MemStore) (c : Image) → LeftSince m (length m.kept) c → IsLeft (state_now m) c
memory_only_now m c left = subst (λ s. IsLeft s c) (all_taken m.files m.kept left.0 left.1) left.3
