-- The keys under which records stand. Numbers in keys have their highest byte first.
use Rattle.std.specs.Prelude.{ℕ, ◌+◌, ◌==◌, ◌&&◌, ◌^◌, nat_lt, Bool, true, false, if◌then◌else◌, List, [], ◌∷◌, ◌++◌, length, drop}
use Rattle.std.specs.List.{list_all}
use Rattle.std.specs.Option.{option_map_or}
use Rattle.byteorder.specs.Endian.{big_bytes, big_number}
use Rattle.sid_core.specs.declared.ids.LeaseName.{LeaseName}
use Rattle.sid_core.specs.declared.setup.FileInfo.{FileInfo}
use Rattle.sid_core.specs.declared.setup.Setup.{Setup}
use Rattle.serial_table.specs.ByNumber.{declared_at}
use Rattle.chain_map.specs.declared.db.Db.{Db}
use Rattle.chain_map.specs.declared.db.Db.TheVariants.{Opens, GLock, Locking, Leases, Register, Brlock, Mailbox}

-- ---- the key of a record

-- The key where the numbers fit; else the empty key, under which no record stands.
abbrev pub fitting : Bool → List ℕ → List ℕ
fitting true key = key
fitting false key = []

-- a pid, and a handle or the number of a call
abbrev pub open_key : ℕ → ℕ → List ℕ
open_key pid number = fitting (nat_lt pid (2 ^ 32) && nat_lt number (2 ^ 32)) (big_bytes 4 pid ++ big_bytes 4 number)

-- the key of a global lock
abbrev pub lock_key : ℕ → List ℕ
lock_key key = fitting (nat_lt key (2 ^ 64)) (big_bytes 8 key)

abbrev pub pid_key : ℕ → List ℕ
pid_key pid = fitting (nat_lt pid (2 ^ 32)) (big_bytes 4 pid)

-- the guid and the key of a lease
abbrev pub name_key : LeaseName → List ℕ
name_key name = fitting (nat_lt name.guid (2 ^ 64) && nat_lt name.key (2 ^ 64)) (big_bytes 8 name.guid ++ big_bytes 8 name.key)

-- device, inode and extid, which is always 0
abbrev pub info_key : FileInfo → List ℕ
info_key info = big_bytes 8 info.dev ++ (big_bytes 8 info.inode ++ big_bytes 8 0)

-- the key of the file with a number; the empty key where it isn't declared
abbrev pub file_key : Setup → ℕ → List ℕ
file_key setup file = option_map_or info_key (declared_at setup.files file) []

-- ---- which bytes are a key

abbrev pub key_length : Db → ℕ
key_length Opens = 8
key_length GLock = 8
key_length Locking = 24
key_length Leases = 16
key_length Register = 4
key_length Brlock = 24
key_length Mailbox = 4

-- bytes, as many as the database's keys have
abbrev pub is_key : Db → List ℕ → Bool
is_key d key = (length key == key_length d) && list_all (λ byte. nat_lt byte 256) key

-- ---- what a key says

abbrev pub pid_in : List ℕ → ℕ
pid_in key = big_number 4 key

abbrev pub lock_in : List ℕ → ℕ
lock_in key = big_number 8 key

abbrev pub name_in : List ℕ → LeaseName
name_in key = record { guid = big_number 8 key; key = big_number 8 (drop 8 key) }

abbrev pub has_key : List ℕ → FileInfo → Bool
has_key key info = (info.dev == big_number 8 key) && (info.inode == big_number 8 (drop 8 key)) && (big_number 8 (drop 16 key) == 0)

-- The number of the first file with the key, where the first of these files has this number; 0 where there is none.
abbrev pub file_from : List ℕ → ℕ → List FileInfo → ℕ
file_from key number [] = 0
file_from key number (info ∷ infos) = if has_key key info then number else file_from key (number + 1) infos

abbrev pub file_in : Setup → List ℕ → ℕ
file_in setup key = file_from key 1 setup.files
