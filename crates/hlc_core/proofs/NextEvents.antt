-- Events that may come next in a lawful history: what nothing is wrong with may follow.
use Rattle.std.proofs.Common.{◌≡◌, ◌≢◌, ℕ, ◌<◌, List, [], arith, length, refl, subst, sym, Option, Some, None}
use Rattle.std.specs.Prelude.{All, IfSome, IsSome}
use Rattle.std.proofs.lemmas.List.Elements.{All-nil}
use Rattle.hlc_arena.specs.Arena.{IsSized, IsWellFormed, MayBeCarried}
use Rattle.hlc_arena.specs.EntryLaws.{AllNamesFit}
use Rattle.hlc_arena.specs.History.{EventKind, History, IsWrite, Sent, Synced, delivered_send, event_at, target_of}
use Rattle.hlc_arena.specs.Known.{carried_by, entry_of, everywhere, table_writes}
use Rattle.hlc_arena.proofs.Entries.{sent_entry_fits}
use Rattle.hlc_arena.proofs.Following.{well_formed_names_fit}
use Rattle.hlc_arena.proofs.TableWrites.{synced_entries_fit, table_may_be_carried}
use Rattle.hlc_core.specs.Lawful.{CarriesEntries, IsLawfulNext}
use Rattle.hlc_core.specs.State.{State}
use Rattle.hlc_core.specs.Step.{event_with}
use Rattle.hlc_core.proofs.Passed.{IsPassed}

module _ (s : State) (node reading : ℕ) (well : IsWellFormed s.history) (passed : IsPassed s node reading) where
  abbrev h : History
  h = s.history

  abbrev IsNext : EventKind → Type 0
  IsNext k = IsLawfulNext h.nodes h.events (event_with node reading k)

  -- what sends nothing, and so carries nothing, is of a size, and delivers at most an earlier message to the node
  pub quiet_next : (k : EventKind) → carried_by k ≡ [] → target_of k ≡ None → IsSized k →
      IfSome (delivered_send k) (λ sent. sent < length h.events) →
      IfSome (delivered_send k) (λ sent. target_of (event_at h.events sent).kind ≡ Some node) → CarriesEntries h.events node k → IsNext k
  quiet_next k nothing nowhere sized earlier addressed entries =
      let no_target : (P : Option ℕ → Type 0) → P None → P (target_of k) = λ P none. subst P (sym nowhere) none in
      let no_write : (P : ℕ → Type 0) → All P (carried_by k) = λ P. subst (All P) (sym nothing) (All-nil P) in
      record {
        follows = record {
          node = passed.exists;
          sized = sized;
          names = record {
            earlier = record { carried = no_write (λ w. w < length h.events); delivered = earlier };
            writes = no_write (λ w. IsWrite (event_at h.events w).kind);
          };
          target = no_target (λ o. IfSome o (λ to. (to < h.nodes) × (to ≢ node))) tt;
          carries = no_target (λ o. IsSome o → MayBeCarried h.events (carried_by k)) (λ some. absurd (cc));
          addressed = addressed;
        };
        requested = record { positive = passed.positive; in_range = passed.in_range; entries = entries };
      }

  -- a message of entries to another node
  module _ (to : ℕ) (target : to < h.nodes) (other : to ≢ node) where
    abbrev fit : AllNamesFit h.events
    fit = well_formed_names_fit h well

    pub send_next : (write : ℕ) (key : List ℕ) → entry_of h.events everywhere node key ≡ Some write → IsNext (Sent to write)
    send_next write key is = record {
      follows = record {
        node = passed.exists;
        sized = tt;
        names = sent_entry_fits h.events everywhere node to write key fit is;
        target = (target, other);
        carries = λ some. record { some = λ none. cc none; different = λ i j d lt within. absurd (omega arith) };
        addressed = tt;
      };
      requested = record { positive = passed.positive; in_range = passed.in_range; entries = (key, is) };
    }

    pub sync_next : table_writes h.events everywhere node ≢ [] → IsNext (Synced to (table_writes h.events everywhere node))
    sync_next some = record {
      follows = record {
        node = passed.exists;
        sized = tt;
        names = synced_entries_fit h.events everywhere node fit to;
        target = (target, other);
        carries = λ sends. table_may_be_carried h.events everywhere node fit some;
        addressed = tt;
      };
      requested = record { positive = passed.positive; in_range = passed.in_range; entries = refl };
    }
