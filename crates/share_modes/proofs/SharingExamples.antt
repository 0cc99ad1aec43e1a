-- Worked examples: what an open meets of the opens of its file.
use Rattle.std.specs.Prelude.{◌≡◌, ℕ, false, List, [], ◌∷◌, Option, Some, None, find, refl}
use Rattle.std.specs.Option.{option_map}
use Rattle.sid_core.specs.declared.ids.OpenId.{OpenId}
use Rattle.sid_core.specs.declared.ids.LeaseName.{LeaseName}
use Rattle.serial_table.specs.Break.{names_of}
use Rattle.record_codec.specs.declared.share_rec.ShareEntry.{ShareEntry}
use Rattle.record_codec.specs.Counts.{Records}
use Rattle.share_modes.specs.Sharing.{OpenCall, AsksLease, conflicting, refuses, shown}
use Rattle.share_modes.specs.declared.asked.Asked.{Asked}
use Rattle.share_modes.proofs.EntryExamples.{register, id_of, seven, eight, open_of, ref_of, lease_of, broken, with_lease}

-- Client 1 opens file 1 under its lease with this key, or under none.
abbrev call_of : Option ℕ → OpenCall
call_of key = record {
  caller = record { sid = record { pid = 101; session = 2 }; guid = 1; number = 9; moment = record { 0 = 50 } };
  file = 1;
  lease = option_map (λ k. record { key = k; state = record { 0 = 7 } }) key;
  durable = 0;
  overwrite = false;
  delete = false;
}

abbrev asked_lease : Option ℕ → Option LeaseName
asked_lease key = option_map (λ k. record { guid = 1; key = k }) key

-- It asks to read, and shares all.
abbrev reads : Option ℕ → Asked
reads key = record { access = record { 0 = 1 }; share = record { 0 = 7 }; lease = asked_lease key }

asks_for_it : AsksLease (call_of (Some 7)) (reads (Some 7))
asks_for_it = refl

asks_for_none : AsksLease (call_of None) (reads None)
asks_for_none = refl

-- the first open that conflicts and refuses
abbrev first_refused : Records → Option ℕ → List ShareEntry → Option OpenId
first_refused records key valid =
    option_map (λ o. o.row.id) (find (refuses (shown records 1 valid) (call_of key) (reads key)) (conflicting (shown records 1 valid) (call_of key) (reads key)))

-- the leases of those that conflict
abbrev leases_met : Records → List ShareEntry → List LeaseName
leases_met records valid = names_of (conflicting (shown records 1 valid) (call_of None) (reads None))

-- both leases hold this
abbrev both_hold : ℕ → Records
both_hold held = record { register = register; mail = λ _. None; lease = λ _. Some (lease_of 1 held (ref_of 101 2 4 0 ∷ [])); share = λ _. None }

-- Who asks for attributes alone is in nobody's way.
nothing : conflicting (shown (both_hold 7) 1 (open_of 101 2 5 None 0 ∷ [])) (call_of None) (record { access = record { 0 = 0x80 }; share = record { 0 = 0 }; lease = None }) ≡ []
nothing = refl

-- An open without a lease refuses, and it is the first that does: the one before it has a lease with HANDLE.
plain_refuses : first_refused (both_hold 3) None (open_of 101 2 4 (Some seven) 0 ∷ open_of 101 2 5 None 0 ∷ open_of 101 2 6 None 0 ∷ []) ≡ Some (id_of 101 5)
plain_refuses = refl

-- So does one under a lease that lacks HANDLE,
lacks_handle : first_refused (both_hold 5) None (open_of 101 2 4 (Some seven) 0 ∷ []) ≡ Some (id_of 101 4)
lacks_handle = refl

-- .. and one whose lease has no record.
no_lease : first_refused (with_lease (lease_of 1 7 (ref_of 101 2 4 0 ∷ []))) None (open_of 101 2 4 (Some eight) 0 ∷ []) ≡ Some (id_of 101 4)
no_lease = refl

-- Under the asked lease it refuses while the lease has an open whose owner lives, itself or another,
own_connected : first_refused (both_hold 7) (Some 7) (open_of 101 2 4 (Some seven) 0 ∷ []) ≡ Some (id_of 101 4)
own_connected = refl

other_connected : first_refused (both_hold 7) (Some 7) (open_of 102 1 4 (Some seven) 60 ∷ open_of 101 2 4 (Some seven) 0 ∷ []) ≡ Some (id_of 102 4)
other_connected = refl

-- .. and not once it has none. That the other lease has one doesn't matter.
own_disconnected : first_refused (both_hold 7) (Some 7) (open_of 102 1 4 (Some seven) 60 ∷ open_of 101 2 4 (Some eight) 0 ∷ []) ≡ None
own_disconnected = refl

-- The leases to be broken, by the first open of each
leases : leases_met (both_hold 7) (open_of 101 2 4 (Some eight) 0 ∷ open_of 101 2 5 (Some seven) 0 ∷ open_of 101 2 6 (Some eight) 0 ∷ []) ≡ eight ∷ seven ∷ []
leases = refl

-- A lease that is breaking holds what it held.
goes_on : first_refused (with_lease (broken (ref_of 101 2 4 0 ∷ []))) None (open_of 101 2 4 (Some seven) 0 ∷ []) ≡ None
goes_on = refl

-- A record that nothing refers to is no lease.
no_refs : first_refused (with_lease (lease_of 1 7 [])) None (open_of 101 2 4 (Some seven) 0 ∷ []) ≡ Some (id_of 101 4)
no_refs = refl
