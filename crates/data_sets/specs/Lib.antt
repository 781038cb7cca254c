pub mod DataSetsView
