pub mod PairingView
