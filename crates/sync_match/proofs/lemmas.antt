pub mod PairingViewLemmas
