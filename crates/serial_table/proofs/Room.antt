-- Room that changes take.
use Rattle.std.proofs.Common.{◌≡◌, ℕ, ◌+◌, ◌*◌, ◌≤◌, arith}
use Rattle.std.proofs.Math.Nat.{mul-le-mul_left}
use Rattle.serial_table.specs.declared.lists.Lists.{Lists}
use Rattle.serial_table.specs.InPlace.{HasRoom, KeepsRoom}

one_less : (cap cap' len len' n : ℕ) → (cap' ≡ cap) × (len' ≤ len + 1) → len + (1 + n) ≤ cap → len' + n ≤ cap'
one_less cap cap' len len' n keeps room = let same : cap' ≡ cap = keeps.0 in let grown : len' ≤ len + 1 = keeps.1 in omega (arith, same, grown, room)

-- a change takes room for one row at most
pub used_one : (old new : Lists) (n : ℕ) → KeepsRoom old new → HasRoom old (1 + n) → HasRoom new n
used_one old new n keeps room = record {
  opens = one_less _ _ _ _ n keeps.opens room.opens;
  leases = one_less _ _ _ _ n keeps.leases room.leases;
  ranges = one_less _ _ _ _ n keeps.ranges room.ranges;
  holds = one_less _ _ _ _ n keeps.holds room.holds;
  waiters = one_less _ _ _ _ n keeps.waiters room.waiters;
  letters = one_less _ _ _ _ n keeps.letters room.letters;
  ended = one_less _ _ _ _ n keeps.ended room.ended;
  pending = one_less _ _ _ _ n keeps.pending room.pending;
}

less : (len m n cap : ℕ) → m ≤ n → len + n ≤ cap → len + m ≤ cap
less len m n cap le room = omega (arith, le, room)

-- room for more is room for fewer
pub room_for_fewer : (lists : Lists) (m n : ℕ) → m ≤ n → HasRoom lists n → HasRoom lists m
room_for_fewer lists m n le room = record {
  opens = less _ m n _ le room.opens;
  leases = less _ m n _ le room.leases;
  ranges = less _ m n _ le room.ranges;
  holds = less _ m n _ le room.holds;
  waiters = less _ m n _ le room.waiters;
  letters = less _ m n _ le room.letters;
  ended = less _ m n _ le room.ended;
  pending = less _ m n _ le room.pending;
}

-- the letters fit into the room that was made for all who could wait
pub letters_fit : (cap candidates waiters bound posts woken letters : ℕ) → waiters ≤ bound → woken ≤ candidates * waiters → posts + candidates * bound ≤ cap → letters ≡ posts + woken → letters ≤ cap
letters_fit cap candidates waiters bound posts woken letters h w room e =
    let more : candidates * waiters ≤ candidates * bound = mul-le-mul_left candidates h in omega (arith, more, w, room, e)
