-- Authorities and providers: those that are read, written, are the bytes that stand there, and those that were written are read.
-- Assumes nothing.
use mathlib.Core.Path.{◌≡◌, sym, ap, ◌∙◌}
use Prim.Native.Nat.{ℕ, ◌+◌, ◌≤◌}
use native.Mathlib.Omega.{arith}
use mathlib.Core.List.{List, ◌++◌, map, append_assoc, append_cancel_left}
use lib.ListN.{length, take, drop, length-append}
use lib.Seq.{take-add}
use Rattle.wire.specs.Lists.{Bytes, part}
use Rattle.length_field.specs.Lengths.{length_bytes, length_at, beside_at, BlockFits, block_bytes, block_end}
use Rattle.wire.specs.Refusals.{provider_cut, provider_too_long, provider_name_cut, provider_descriptors_cut, authority_cut}
use Rattle.wire.specs.Runs.{each_row, in_order}
use Rattle.wire.proofs.Lists.{bytes-append, length_part, drop_past}
use Rattle.length_field.proofs.Blocks.{length-length_bytes, length-short, beside-narrow, block-length, block-bytes, block_up, BlockRead, block_back, block-rebuild, block-passed, block-pass}
use Rattle.wire.proofs.RunLaws as runs
use Rattle.wire.proofs.Verdicts.{then-fine, fine-then}
use Rattle.rnt.specs.Syntax.{Authority, Provider, named_bytes, authority_named, authority_bytes, info_bytes, entry_of, provider_bytes, AuthorityFits, ProviderFits}
use Rattle.rnt.specs.Reading.{named_end, named_at, authority_of, authority_at, info_place, authority_places, provider_at, authority_verdict, provider_head, provider_verdict}
use Rattle.rnt.proofs.Names.{named-up, named-bytes, NamedRead, named_back, NamedRebuilt, named-rebuilt, named-passed, named-pass, authority-fits, bits_back, bits-rebuilt, authority-of-fits}
use Rattle.wire.specs.Verdict.{Fine}

-- ---- authorities of a provider that ends at e

module _ (xs : List ℕ) (e : ℕ) where
  authority-back : (q : ℕ) (a : Authority) (post : List ℕ) → AuthorityFits a → drop q xs ≡ authority_bytes a ++ post → q + length (authority_bytes a) ≤ e
      → runs.Back xs e (named_end xs) (named-up xs) (authority_verdict xs e) (authority_at xs) authority_bytes AuthorityFits q a
  authority-back q a post f d h =
      let r = named_back xs q (authority_named a) post (authority-fits a f) d in
      record { passed = named-pass authority_cut authority_cut xs e q (omega (arith, r.place)); same = ap authority_of r.same ∙ bits_back a f; place = r.place }

  authority-rebuilds : Bytes xs → e ≤ length xs → (q : ℕ) → authority_verdict xs e q ≡ Fine
      → runs.Rebuilds xs e (named_end xs) (named-up xs) (authority_verdict xs e) (authority_at xs) authority_bytes AuthorityFits q
  authority-rebuilds b l q v =
      let w = named-passed authority_cut authority_cut xs e q v in
      let r = named-rebuilt xs q b (omega arith) in
      record { within = w; same = ap (λ n. take q xs ++ named_bytes n) (bits-rebuilt (named_at xs q)) ∙ r.same; fit = authority-of-fits (named_at xs q) r.fits }

pub authority-bytes : (a : Authority) → AuthorityFits a → Bytes (authority_bytes a)
authority-bytes a f = named-bytes (authority_named a) (authority-fits a f)

-- ---- one provider

pub info-bytes : (p : Provider) → ProviderFits p → Bytes (info_bytes p)
unfolding info_bytes
info-bytes p f =
    bytes-append (named_bytes p.named) (in_order authority_bytes p.authorities) (named-bytes p.named f.named)
    (runs.order-bytes authority_bytes AuthorityFits authority-bytes p.authorities f.authorities)

-- a provider that fits has an entry that fits
pub entry-fits : (p : Provider) → ProviderFits p → BlockFits (entry_of p)
entry-fits p f = record { narrow = f.reserved; short = f.short; bytes = info-bytes p f }

pub provider-bytes : (p : Provider) → ProviderFits p → Bytes (provider_bytes p)
provider-bytes p f = block-bytes (entry_of p) (entry-fits p f)

-- what its rows say
pub record HeadPassed (xs : List ℕ) (e p : ℕ) : Type 0 where
  pub within : block_end xs p ≤ e
  pub named : named_end xs (info_place p) ≤ block_end xs p

pub head_passed : (xs : List ℕ) (e p : ℕ) → provider_head xs e p ≡ Fine → HeadPassed xs e p
unfolding provider_head
head_passed xs e p v =
    let two = then-fine _ _ v in
    record { within = block-passed provider_cut provider_too_long _ _ xs e p two.0; named = named-passed provider_name_cut provider_descriptors_cut xs (block_end xs p) (info_place p) two.1 }

pub head-pass : (xs : List ℕ) (e p : ℕ) → HeadPassed xs e p → provider_head xs e p ≡ Fine
unfolding provider_head
head-pass xs e p h =
    fine-then _ _ (block-pass provider_cut provider_too_long _ _ xs e p h.within) (named-pass provider_name_cut provider_descriptors_cut xs (block_end xs p) (info_place p) h.named)

pub provider-within : (xs : List ℕ) (e p : ℕ) → provider_verdict xs e p ≡ Fine → block_end xs p ≤ e
unfolding provider_verdict
provider-within xs e p v = (head_passed xs e p (then-fine (provider_head xs e p) _ v).0).within

module _ (xs : List ℕ) (e : ℕ) where
  pub provider-back : (q : ℕ) (p : Provider) (post : List ℕ) → ProviderFits p → drop q xs ≡ provider_bytes p ++ post → q + length (provider_bytes p) ≤ e
      → runs.Back xs e (block_end xs) (block_up xs) (provider_verdict xs e) (provider_at xs) provider_bytes ProviderFits q p
  unfolding provider_verdict provider_at info_bytes block_bytes
  provider-back q p post f d h =
      record {
        passed = fine-then _ _ (head-pass xs e q (record { within = omega (arith, place); named = omega (arith, named.place, end) })) all.passed;
        same = λ i. record { reserved = (block.same i).beside; named = named.same i; authorities = all.same i };
        place = place;
      }
    where
      info : List ℕ
      info = in_order authority_bytes p.authorities

      block : BlockRead xs q (entry_of p) post
      block = block_back xs q (entry_of p) post (entry-fits p f) d

      place : block_end xs q ≡ q + length (provider_bytes p)
      place = omega (arith, block.len, block-length (entry_of p))

      -- the bytes behind the length field
      behind : drop (info_place q) xs ≡ named_bytes p.named ++ (info ++ post)
      behind =
          drop_past xs q 2 (length_bytes p.reserved (length (info_bytes p))) (info_bytes p ++ post) (d ∙ append_assoc (length_bytes p.reserved (length (info_bytes p))) (info_bytes p) post) (length-length_bytes _ _)
          ∙ append_assoc (named_bytes p.named) info post

      named : NamedRead xs (info_place q) p.named (info ++ post)
      named = named_back xs (info_place q) p.named (info ++ post) f.named behind

      end : block_end xs q ≡ named_end xs (info_place q) + length info
      end = omega (arith, block.len, named.place, length-append (named_bytes p.named) info)

      all : runs.RunBack xs (block_end xs q) (named_end xs) (named-up xs) (authority_verdict xs (block_end xs q)) (authority_at xs) authority_bytes AuthorityFits (named_end xs (info_place q)) p.authorities
      all = runs.run-back xs (block_end xs q) (named_end xs) (named-up xs) (authority_verdict xs (block_end xs q)) (authority_at xs) authority_bytes AuthorityFits
          (authority-back xs (block_end xs q)) p.authorities (named_end xs (info_place q)) post f.authorities named.past (sym end)

  pub provider-rebuilds : Bytes xs → e ≤ length xs → (q : ℕ) → provider_verdict xs e q ≡ Fine
      → runs.Rebuilds xs e (block_end xs) (block_up xs) (provider_verdict xs e) (provider_at xs) provider_bytes ProviderFits q
  unfolding provider_verdict provider_at info_bytes
  provider-rebuilds b l q v =
      record {
        within = h.within;
        same = ap (λ k. take q xs ++ block_bytes k) (λ i. record { beside = beside_at xs q; body = info i }) ∙ block-rebuild xs q b inside;
        fit = record { reserved = beside-narrow xs q b; named = named.fits; authorities = all.fit; short = rw (info, length_part xs (info_place q) (length_at xs q) inside) (length-short xs q b) };
      }
    where
      two : (provider_head xs e q ≡ Fine) × (each_row (authority_verdict xs (block_end xs q)) (authority_places xs q) ≡ Fine)
      two = then-fine _ _ v

      h : HeadPassed xs e q
      h = head_passed xs e q two.0

      inside : block_end xs q ≤ length xs
      inside = omega (arith, h.within)

      named : NamedRebuilt xs (info_place q)
      named = named-rebuilt xs (info_place q) b (omega (arith, inside, h.named))

      all : runs.RunRebuilt xs (block_end xs q) (named_end xs) (named-up xs) (authority_verdict xs (block_end xs q)) (authority_at xs) authority_bytes AuthorityFits (named_end xs (info_place q))
      all = runs.run-rebuilt xs (block_end xs q) (named_end xs) (named-up xs) (authority_verdict xs (block_end xs q)) (authority_at xs) authority_bytes AuthorityFits
          (authority-rebuilds xs (block_end xs q) b inside) (named_end xs (info_place q)) h.named two.1

      -- up to its end stand the bytes before the info and the info
      whole : take (info_place q) xs ++ (named_bytes (named_at xs (info_place q)) ++ in_order authority_bytes (map (authority_at xs) (authority_places xs q))) ≡ take (info_place q) xs ++ part xs (info_place q) (length_at xs q)
      whole = sym (append_assoc (take (info_place q) xs) (named_bytes (named_at xs (info_place q))) _) ∙ ap (λ l. l ++ in_order authority_bytes (map (authority_at xs) (authority_places xs q))) named.same ∙ all.same ∙ take-add (info_place q) (length_at xs q) xs

      info : named_bytes (named_at xs (info_place q)) ++ in_order authority_bytes (map (authority_at xs) (authority_places xs q)) ≡ part xs (info_place q) (length_at xs q)
      info = append_cancel_left (take (info_place q) xs) _ _ whole
