-- The record of the opens of a file is exact, and its sets are the named ones.
use Rattle.std.proofs.Common.{◌≡◌, ℕ, ◌+◌, ◌*◌, ◌++◌, Bool, true, false, eqb, List, [], ◌∷◌, Option, Some, None, length, refl, sym, lit<, arith}
use Rattle.std.specs.Prelude.{◌↔◌, IsTrue, is_some, codes}
use Rattle.std.specs.List.{flat_map, AllByRecursion}
use Rattle.std.proofs.lemmas.Bool.{eqb-true, eq-eqb}
use Rattle.std.proofs.lemmas.List.{length-append}
use Rattle.byteorder.specs.Endian.{little_bytes}
use Rattle.sid_core.specs.declared.ids.LeaseName.{LeaseName}
use Rattle.record_codec.specs.declared.share_rec.ShareEntry.{ShareEntry}
use Rattle.record_codec.specs.declared.share_rec.ShareRec.{ShareRec}
use Rattle.record_codec.specs.Fields.{within, zero_unless, is_moment, truth, truth_in, list, IsListOf, watch, IsWatch}
use Rattle.record_codec.specs.ShareRec.{is_access, access, share_bits, lease_of, lease_guid, lease_key, lease_name, IsLeaseName, has_delete, unmarked_entry, IsUnmarkedEntry, with_mark, share_entry, IsShareEntry, old_share_fields, share_fields, old_or_new_fields, share_fields_of, share_rec, HasNoMark, IsShareRec}
use Rattle.record_codec.proofs.Exact.{IsExact, seq_exact, left_out_exact, via_exact}
use Rattle.record_codec.proofs.Fields.{u8_in_exact, u32_exact, u32_in_exact, u64_in_exact, truth_exact, truth_in_exact, text_exact, open_id_exact, sid_exact, list_exact, watch_exact}
use Rattle.record_codec.proofs.Sets.{texts, rights, shares, moments, truth_valid, open_id_set, sid_set, watch_set, each_to, list_set}
use Rattle.record_codec.proofs.Sizes.{items_size}
use Rattle.record_codec.proofs.Stored.{stored_exact, stored_set}

access_exact : (field : ℕ) → IsExact (access field)
access_exact field = via_exact _ _ _ (λ y. refl) (λ x v. refl) (u32_in_exact field is_access)

share_bits_exact : (field : ℕ) → IsExact (share_bits field)
share_bits_exact field = via_exact _ _ _ (λ y. refl) (λ x v. refl) (u8_in_exact field (within 0 7))

name_made : (o : Option LeaseName) → lease_of (is_some o) (lease_guid o) (lease_key o) ≡ o
name_made None = refl
name_made (Some name) = refl

abbrev parts : Bool → ℕ → ℕ → Bool × (ℕ × ℕ)
parts leased guid key = (leased, (guid, key))

name_taken : (b : Bool) (guid key : ℕ) → IsTrue (zero_unless b guid) → IsTrue (zero_unless b key)
    → parts (is_some (lease_of b guid key)) (lease_guid (lease_of b guid key)) (lease_key (lease_of b guid key)) ≡ parts b guid key
name_taken true guid key g k = refl
name_taken false guid key g k =
    let a : 0 ≡ guid = sym (eqb-true _ _ g) in
    let b : 0 ≡ key = sym (eqb-true _ _ k) in
    rw (← a, ← b) refl

lease_name_exact : (leased guid key : ℕ) → IsExact (lease_name leased guid key)
lease_name_exact leased guid key = via_exact _ _ _ name_made (λ p v. name_taken p.0 p.1.0 p.1.1 v.1.0.1 v.1.1.1)
    (seq_exact _ _ (truth_exact leased) (λ b.
    seq_exact _ _ (u64_in_exact guid (zero_unless b)) (λ _.
    u64_in_exact key (zero_unless b))))

pub unmarked_entry_exact : (first : ℕ) → IsExact (unmarked_entry first)
unfolding unmarked_entry
unmarked_entry_exact first = via_exact _ _ _ (λ y. refl) (λ x v. refl)
    (seq_exact _ _ (open_id_exact first (first + 1)) (λ _.
    seq_exact _ _ (sid_exact (first + 2) (first + 3)) (λ _.
    seq_exact _ _ (u32_exact (first + 4)) (λ _.
    seq_exact _ _ (access_exact (first + 5)) (λ _.
    seq_exact _ _ (share_bits_exact (first + 6)) (λ _.
    seq_exact _ _ (lease_name_exact (first + 7) (first + 8) (first + 9)) (λ lease.
    seq_exact _ _ (u32_in_exact (first + 10) (zero_unless (is_some lease))) (λ _.
    seq_exact _ _ (u64_in_exact (first + 11) is_moment) (λ _.
    left_out_exact false)))))))))

-- What an entry without its mark holds isn't marked.
unmarked : (first : ℕ) (e : ShareEntry) → (unmarked_entry first).valid e → e.marked ≡ false
unfolding unmarked_entry
unmarked first e v = v.1.1.1.1.1.1.1.1

abbrev and_mark : ShareEntry → Bool → ShareEntry × Bool
and_mark e mark = (e, mark)

entry_taken : (e : ShareEntry) (mark : Bool) → e.marked ≡ false → and_mark (with_mark false (with_mark mark e)) mark ≡ and_mark e mark
entry_taken e mark h = rw (← h) refl

pub share_entry_exact : IsExact share_entry
unfolding share_entry
share_entry_exact = via_exact _ _ _ (λ y. refl) (λ p v. entry_taken p.0 p.1 (unmarked 8 p.0 v.0))
    (seq_exact _ _ (unmarked_entry_exact 8) (λ entry. truth_in_exact 20 (zero_unless (has_delete entry.access))))

lease_name_set : (leased guid key : ℕ) (o : Option LeaseName) → IsLeaseName o ↔ (lease_name leased guid key).valid o
lease_name_set leased guid key None = (λ i. ((lit< tt, refl), ((lit< tt, refl), (lit< tt, refl))), λ v. tt)
lease_name_set leased guid key (Some name) =
    (λ i. ((lit< tt, refl), ((i.guid, refl), (i.key, refl))), λ v. record { guid = v.1.0.0; key = v.1.1.0 })

-- What is 0 unless the condition holds, for the durable time of an open.
zero_without : (o : Option LeaseName) (n : ℕ) → (o ≡ None → n ≡ 0) ↔ IsTrue (zero_unless (is_some o) n)
zero_without None n = (λ f. eq-eqb n 0 (f refl), λ h _. eqb-true n 0 h)
zero_without (Some name) n = (λ f. refl, λ h e. absurd cc)

pub unmarked_entry_set : (first : ℕ) (e : ShareEntry) → IsUnmarkedEntry e ↔ (unmarked_entry first).valid e
unfolding unmarked_entry
unmarked_entry_set first e = (
  λ u. let i = u.entry in (
    (open_id_set first (first + 1) e.id).0 i.id,
    (
      (sid_set (first + 2) (first + 3) e.owner).0 i.owner,
      (
        (i.handle, refl),
        (
          (rights (first + 5) e.access).1 i.access,
          (
            (shares (first + 6) e.share).1 i.share,
            (
              (lease_name_set (first + 7) (first + 8) (first + 9) e.lease).0 i.lease,
              (
                (i.durable, (zero_without e.lease e.durable).0 i.without_lease),
                ((moments (first + 11) e.opened).1 i.opened, u.unmarked),
              ),
            ),
          ),
        ),
      ),
    ),
  ),
  λ v. record {
    entry = record {
      id = (open_id_set first (first + 1) e.id).1 v.0;
      owner = (sid_set (first + 2) (first + 3) e.owner).1 v.1.0;
      handle = v.1.1.0.0;
      access = (rights (first + 5) e.access).0 v.1.1.1.0;
      share = (shares (first + 6) e.share).0 v.1.1.1.1.0;
      lease = (lease_name_set (first + 7) (first + 8) (first + 9) e.lease).1 v.1.1.1.1.1.0;
      durable = v.1.1.1.1.1.1.0.0;
      without_lease = (zero_without e.lease e.durable).1 v.1.1.1.1.1.1.0.1;
      opened = (moments (first + 11) e.opened).0 v.1.1.1.1.1.1.1.0;
      marked = λ m. let n = v.1.1.1.1.1.1.1.1 in absurd cc;
    };
    unmarked = v.1.1.1.1.1.1.1.1;
  },
)

-- the entry without its mark, and one with the same parts and a mark that it may have
without_mark : (e : ShareEntry) → IsShareEntry e → IsUnmarkedEntry (with_mark false e)
without_mark e i = record {
  entry = record { id = i.id; owner = i.owner; handle = i.handle; access = i.access; share = i.share; lease = i.lease; durable = i.durable; without_lease = i.without_lease; opened = i.opened; marked = λ m. absurd cc };
  unmarked = refl;
}

and_its_mark : (e : ShareEntry) → IsUnmarkedEntry (with_mark false e) → (e.marked ≡ true → IsTrue (has_delete e.access)) → IsShareEntry e
and_its_mark e u m =
    let i = u.entry in
    record { id = i.id; owner = i.owner; handle = i.handle; access = i.access; share = i.share; lease = i.lease; durable = i.durable; without_lease = i.without_lease; opened = i.opened; marked = m }

mark_set : (field : ℕ) (condition mark : Bool) → (mark ≡ true → IsTrue condition) ↔ (truth_in field (zero_unless condition)).valid mark
mark_set field true mark = (λ f. go mark, λ v e. refl) where
  go : (mark : Bool) → (truth_in field (zero_unless true)).valid mark
  go false = (lit< tt, refl)
  go true = (lit< tt, refl)
mark_set field false false = (λ f. (lit< tt, refl), λ v e. absurd cc)
mark_set field false true = (λ f. let h = f refl in absurd cc, λ v. let h = v.1 in absurd cc)

pub share_entry_set : (e : ShareEntry) → IsShareEntry e ↔ share_entry.valid e
unfolding share_entry
share_entry_set e =
    let parts = unmarked_entry_set 8 (with_mark false e) in
    let mark = mark_set 20 (has_delete e.access) e.marked in
    (λ i. (parts.0 (without_mark e i), mark.0 i.marked), λ v. and_its_mark e (parts.1 v.0) (mark.1 v.1))

pub unmarked_entry_size : (first : ℕ) (e : ShareEntry) → length ((unmarked_entry first).spell e) ≡ 54
unfolding unmarked_entry
unmarked_entry_size first e = refl

pub share_entry_size : (e : ShareEntry) → length (share_entry.spell e) ≡ 55
unfolding share_entry
share_entry_size e =
    omega (arith, length-append ((unmarked_entry 8).spell (with_mark false e)) ((truth 20).spell e.marked), unmarked_entry_size 8 (with_mark false e))

old_share_fields_exact : IsExact old_share_fields
unfolding old_share_fields
old_share_fields_exact = via_exact _ _ _ (λ y. refl) (λ x v. refl)
    (seq_exact _ _ (u32_exact 3) (λ _.
    seq_exact _ _ (text_exact 4) (λ _.
    seq_exact _ _ (text_exact 5) (λ _.
    seq_exact _ _ (left_out_exact false) (λ _.
    seq_exact _ _ (list_exact 6 (unmarked_entry 7) (unmarked_entry_exact 7)) (λ _.
    list_exact 19 _ (watch_exact 20 21 22)))))))

share_fields_exact : IsExact share_fields
unfolding share_fields
share_fields_exact = via_exact _ _ _ (λ y. refl) (λ x v. refl)
    (seq_exact _ _ (u32_exact 3) (λ _.
    seq_exact _ _ (text_exact 4) (λ _.
    seq_exact _ _ (text_exact 5) (λ _.
    seq_exact _ _ (truth_exact 6) (λ _.
    seq_exact _ _ (list_exact 7 share_entry share_entry_exact) (λ _.
    list_exact 21 _ (watch_exact 22 23 24)))))))

each_version_exact : (version : ℕ) → IsExact (share_fields_of version)
each_version_exact version = go (eqb version 1) where
  go : (b : Bool) → IsExact (old_or_new_fields b)
  go true = old_share_fields_exact
  go false = share_fields_exact

pub share_exact : IsExact share_rec
share_exact = stored_exact (codes "SHAR") 1 2 share_fields_of each_version_exact

-- both of each, of a list
with_both : {A : Type 0} (P Q R : A → Type 0) → ((x : A) → P x → Q x → R x) → (xs : List A) → AllByRecursion P xs → AllByRecursion Q xs → AllByRecursion R xs
with_both P Q R f [] p q = tt
with_both P Q R f (x ∷ xs) p q = (f x p.0 q.0, with_both P Q R f xs p.1 q.1)

pub unmarked_entries : (r : ShareRec) → IsShareRec r → HasNoMark r → IsListOf IsUnmarkedEntry r.entries
unmarked_entries r i n = record {
  few = i.entries.few;
  each = with_both IsShareEntry (λ e. e.marked ≡ false) IsUnmarkedEntry (λ e entry unmarked. record { entry = entry; unmarked = unmarked }) r.entries i.entries.each n.entries;
}

pub old_share_fields_set : (r : ShareRec) → IsShareRec r × HasNoMark r ↔ old_share_fields.valid r
unfolding old_share_fields
old_share_fields_set r =
    let entries = list_set 6 (unmarked_entry 7) IsUnmarkedEntry (unmarked_entry_set 7) r.entries in
    let watchers = list_set 19 (watch 20 21 22) IsWatch (watch_set 20 21 22) r.watchers in (
      λ p.
          let i = p.0 in
          let n = p.1 in
          ((i.file, refl), ((texts 4 r.path).1 i.path, ((texts 5 r.name).1 i.name, (n.pending, (entries.0 (unmarked_entries r i n), watchers.0 i.watchers))))),
      λ v.
          let u = entries.1 v.1.1.1.1.0 in (
            record {
              file = v.0.0;
              path = (texts 4 r.path).0 v.1.0;
              name = (texts 5 r.name).0 v.1.1.0;
              entries = record { few = u.few; each = each_to IsUnmarkedEntry IsShareEntry (λ e i. i.entry) r.entries u.each };
              watchers = watchers.1 v.1.1.1.1.1;
            },
            record { pending = v.1.1.1.0; entries = each_to IsUnmarkedEntry (λ e. e.marked ≡ false) (λ e i. i.unmarked) r.entries u.each },
          ),
    )

pub share_fields_set : (r : ShareRec) → IsShareRec r ↔ share_fields.valid r
unfolding share_fields
share_fields_set r =
    let entries = list_set 7 share_entry IsShareEntry share_entry_set r.entries in
    let watchers = list_set 21 (watch 22 23 24) IsWatch (watch_set 22 23 24) r.watchers in (
      λ i. ((i.file, refl), ((texts 4 r.path).1 i.path, ((texts 5 r.name).1 i.name, (truth_valid 6 r.pending, (entries.0 i.entries, watchers.0 i.watchers))))),
      λ v. record {
        file = v.0.0;
        path = (texts 4 r.path).0 v.1.0;
        name = (texts 5 r.name).0 v.1.1.0;
        entries = entries.1 v.1.1.1.1.0;
        watchers = watchers.1 v.1.1.1.1.1;
      },
    )

pub each_version_set : (version : ℕ) (r : ShareRec) → (share_fields_of version).valid r → IsShareRec r
each_version_set version r = go (eqb version 1) where
  go : (b : Bool) → (old_or_new_fields b).valid r → IsShareRec r
  go true v = ((old_share_fields_set r).1 v).0
  go false v = (share_fields_set r).1 v

pub old_share_set : (r : ShareRec) → IsShareRec r × HasNoMark r ↔ share_rec.valid (1, r)
old_share_set r = stored_set (codes "SHAR") 1 2 1 share_fields_of (λ r. IsShareRec r × HasNoMark r) (lit< tt) (lit< tt) refl old_share_fields_set r

pub share_set : (r : ShareRec) → IsShareRec r ↔ share_rec.valid (2, r)
share_set r = stored_set (codes "SHAR") 1 2 2 share_fields_of IsShareRec (lit< tt) (lit< tt) refl share_fields_set r

pub old_share_size : (r : ShareRec) → length (old_share_fields.spell r) ≡ 16 + (length r.path + length r.name) + 54 * length r.entries + 12 * length r.watchers
unfolding old_share_fields
old_share_size r =
    let a = items_size (unmarked_entry 7).spell 54 (unmarked_entry_size 7) r.entries in
    let b = items_size (watch 0 0 0).spell 12 (λ w. refl) r.watchers in
    let lists = (list 6 (unmarked_entry 7)).spell r.entries ++ (list 19 (watch 0 0 0)).spell r.watchers in
    omega (
      arith,
      length-append r.path (little_bytes 2 (length r.name) ++ r.name ++ lists),
      length-append r.name lists,
      length-append (flat_map (unmarked_entry 7).spell r.entries) ((list 19 (watch 0 0 0)).spell r.watchers),
      a,
      b,
    )

-- in version 1, with the header
pub packed_old_size : (r : ShareRec) → length (share_rec.spell (1, r)) ≡ 22 + (length r.path + length r.name) + 54 * length r.entries + 12 * length r.watchers
packed_old_size r = omega (arith, old_share_size r)

pub share_size : (r : ShareRec) → length (share_fields.spell r) ≡ 17 + (length r.path + length r.name) + 55 * length r.entries + 12 * length r.watchers
unfolding share_fields
share_size r =
    let a = items_size share_entry.spell 55 share_entry_size r.entries in
    let b = items_size (watch 0 0 0).spell 12 (λ w. refl) r.watchers in
    let lists = (list 7 share_entry).spell r.entries ++ (list 21 (watch 0 0 0)).spell r.watchers in
    let others = (truth 6).spell r.pending ++ lists in
    omega (
      arith,
      length-append r.path (little_bytes 2 (length r.name) ++ r.name ++ others),
      length-append r.name others,
      length-append (flat_map share_entry.spell r.entries) ((list 21 (watch 0 0 0)).spell r.watchers),
      a,
      b,
    )
