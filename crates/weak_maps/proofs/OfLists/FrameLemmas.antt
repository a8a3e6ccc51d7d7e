-- What calls leave of a machine of one domain.
use Rattle.std.proofs.Common.{◌≡◌, ℕ, ◌+◌, ◌<◌, List, arith}
use Rattle.model_core.specs.declared.command.Command.TheVariants.{Alloc}
use Rattle.model_core.specs.declared.entry.Entry.{Entry}
use Rattle.model_core.specs.declared.reply.Reply.{Reply}
use Rattle.model_core.specs.declared.state.Sizes.{Sizes}
use Rattle.model_core.specs.History.{Legal}
use Rattle.weak_laws.specs.Tables.Performing.{full_of, is_spared}
use Rattle.weak_maps.specs.Beside.{refusals_by}
use Rattle.weak_maps.specs.Crowds.{PutCounts}
use Rattle.weak_maps.specs.Frames.{Leaves, Puts, Reads, Spends}
use Rattle.weak_maps.specs.Lists.Frames.{AllocatesAlone, LeavesAlone, PutsAlone, ReadsAlone}
use Rattle.weak_maps.proofs.OfLists.MachineLemmas.{first_domain, legal_at, put_labels, refusals_same, refusals_told, writings_below, writings_same, writings_told}

module _ {M H : Type 0} {z : M → Sizes} {d : M → ℕ} {of : M → H} {front : M → List Entry} {labels room : M → ℕ} {a b : M} (alone : (z a).domains ≡ 1) (inside : d a < (z a).domains) (before : Legal (z a) (front a)) (behind : Legal (z b) (front b)) where
  pub leaves_alone : Leaves z d of front labels room a b → LeavesAlone z d of front labels room a b
  leaves_alone x = record {
    stays = x.stays;
    labels = x.labels;
    room = x.room;
    given = refusals_same (z a) alone (d a) (first_domain (z a) (d a) alone inside) (front a) (front b) before (legal_at (z a) (z b) (front b) x.stays.sizes behind) x.given;
    written = writings_same (z a) alone (d a) (first_domain (z a) (d a) alone inside) (front a) (front b) before (legal_at (z a) (z b) (front b) x.stays.sizes behind) x.written;
  }

  pub reads_alone : {n : ℕ} → Reads z d of front labels room a b n → ReadsAlone z d of front labels room a b n
  reads_alone {n = n} x = record {
    stays = x.stays;
    labels = x.labels;
    room = x.room;
    given = refusals_same (z a) alone (d a) (first_domain (z a) (d a) alone inside) (front a) (front b) before (legal_at (z a) (z b) (front b) x.stays.sizes behind) x.given;
    written = writings_below (z a) alone (d a) (first_domain (z a) (d a) alone inside) (front a) (front b) before (legal_at (z a) (z b) (front b) x.stays.sizes behind) n x.written;
  }

  pub allocates_alone : {dst tag fields : ℕ} {r : Reply} → Spends z d of front labels room a b (Alloc dst tag fields) r → AllocatesAlone z d of front labels room a b dst r
  allocates_alone {dst = dst} {r = r} x =
      let x_labels = x.labels in
      let x_room = x.room in
      let x_given = x.given in record {
        stays = x.stays;
        labels = omega (arith, x_labels, x_given);
        room = omega (arith, x_room);
        refused = refusals_told (z a) alone (d a) (first_domain (z a) (d a) alone inside) (front a) (front b) before (legal_at (z a) (z b) (front b) x.stays.sizes behind) (full_of r) x.refused;
        written = writings_told (z a) alone (d a) (first_domain (z a) (d a) alone inside) (front a) (front b) before (legal_at (z a) (z b) (front b) x.stays.sizes behind) (is_spared dst) x.written;
      }

  pub puts_alone : {r : Reply} → refusals_by (d a) (front b) ≡ refusals_by (d a) (front a) + full_of r → Puts z d of front labels room a b PutCounts r → PutsAlone z d of front labels room a b r
  puts_alone {r = r} counted x = record {
    stays = x.stays;
    labels = put_labels _ _ _ _ r x.counts;
    room = x.room;
    refused = refusals_told (z a) alone (d a) (first_domain (z a) (d a) alone inside) (front a) (front b) before (legal_at (z a) (z b) (front b) x.stays.sizes behind) (full_of r) counted;
    written = writings_same (z a) alone (d a) (first_domain (z a) (d a) alone inside) (front a) (front b) before (legal_at (z a) (z b) (front b) x.stays.sizes behind) x.written;
  }
